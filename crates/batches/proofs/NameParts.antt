-- Names read from sixteen bytes of a batch. Assumes nothing.
use Rattle.std.proofs.Common.{◌≡◌, ℕ, Bool, true, false, List, is_ok, is_some, Ok, Err, Some, None, Option, Result, sym, refl, ap, ◌∙◌, arith}
use Rattle.std.proofs.lemmas.Bool.{false≢true}
use Rattle.std.specs.Cmp.Lexicographic.{nat_list_eq_equiv}
use Rattle.std.specs.Option.{option_eq, option_map}
use Rattle.std.specs.Result.{result_ok}
use Rattle.std.specs.Bool.{then_some}
use Rattle.std.specs.Str.{bytes_eq}
use Rattle.values.proofs.NameLaws.{name_lawful}
use Rattle.values.specs.Names.{lawful_name}
use Rattle.values.specs.Named.{name_bytes}
use Rattle.values.specs.declared.name.Name.{Name}
use Rattle.batches.proofs.Commands.{same_not}

pub name_some : (r : Option Name) (t : Bool) (bs : List ℕ) → option_map name_bytes r ≡ then_some t bs → is_some r ≡ t
name_some None true bs e = absurd (let z : ◌≡◌ {A = ℕ} 0 1 = cc in omega arith)
name_some None false bs e = refl
name_some (Some n) true bs e = refl
name_some (Some n) false bs e = absurd (let z : ◌≡◌ {A = ℕ} 0 1 = cc in omega arith)

-- an option by its test
pub none_when : {X : Type 0} (o : Option X) → is_some o ≡ false → o ≡ None
none_when None e = refl
none_when (Some x) e = absurd (let z : ◌≡◌ {A = ℕ} 0 1 = cc in omega arith)

pub some_when : {X : Type 0} (o : Option X) → is_some o ≡ true → (x : X) × (o ≡ Some x)
some_when None e = absurd (let z : ◌≡◌ {A = ℕ} 0 1 = cc in omega arith)
some_when (Some x) e = (x, refl)

-- a result by its test
pub error_when : {X E : Type 0} (r : Result X E) → is_ok r ≡ false → result_ok r ≡ None
error_when (Ok x) e = absurd (let z : ◌≡◌ {A = ℕ} 0 1 = cc in omega arith)
error_when (Err x) e = refl

pub value_when : {X E : Type 0} (r : Result X E) → is_ok r ≡ true → (x : X) × (result_ok r ≡ Some x)
value_when (Ok x) e = (x, refl)
value_when (Err x) e = absurd (let z : ◌≡◌ {A = ℕ} 0 1 = cc in omega arith)

-- the name that was read, of the bytes that it was read from
pub name_read : (n : Name) (t : Bool) (bs : List ℕ) → Some (name_bytes n) ≡ then_some t bs → (t ≡ true) × (name_bytes n ≡ bs)
name_read n true bs e = (refl, cc)
name_read n false bs e = absurd (let z : ◌≡◌ {A = ℕ} 0 1 = cc in omega arith)

pub no_name_read : (t : Bool) (bs : List ℕ) → None ≡ then_some t bs → t ≡ false
no_name_read true bs e = absurd (let z : ◌≡◌ {A = ℕ} 0 1 = cc in omega arith)
no_name_read false bs e = refl

-- a name is no bytes that are not lawful
differs : (n : Name) (bs : List ℕ) → lawful_name bs ≡ false → bytes_eq (name_bytes n) bs ≡ false
differs n bs f = same_not (name_bytes n) bs (λ e. false≢true (sym f ∙ (ap lawful_name (sym e) ∙ name_lawful n)))

-- a name that was read from sixteen bytes, compared with another
pub same_name : (n : Name) (r : Option Name) (bs : List ℕ) → option_map name_bytes r ≡ then_some (lawful_name bs) bs → option_eq (λ a b. bytes_eq (name_bytes a) (name_bytes b)) r (Some n) ≡ bytes_eq (name_bytes n) bs
same_name n None bs e = sym (differs n bs (no_name_read _ _ e))
same_name n (Some m) bs e =
    nat_list_eq_equiv.symm (name_bytes m) (name_bytes n) ∙ ap (bytes_eq (name_bytes n)) (name_read m _ bs e).1
