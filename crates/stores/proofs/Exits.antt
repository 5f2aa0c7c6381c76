-- What an early return gives back, where a `?` finds a fault or a value that is missing. Assumes nothing.
use Rattle.std.proofs.Common.{true, false, length, ◌≡◌, ℕ, List, IsErrAnd, Some, None, Ok, Err, Option, Result, sym, ap, ◌∙◌}
use Rattle.std.specs.Option.{ok_or, option_map}
use Rattle.values.proofs.NamesWhole.{name_refused, name_taken}
use Rattle.values.specs.Named.{name_bytes, name_from}
use Rattle.values.specs.Names.{lawful_name}
use Rattle.values.specs.declared.name.Name.{Name}
use Rattle.stores.specs.Refusals.{Refusal}
use Rattle.stores.specs.Shelved.{answered, outcome, refuses}

-- a fault that is passed on
pub carried : {X Y E : Type 0} (g : X → Y) (h : E → Refusal) (r : Result X E) (f : E) → IsErrAnd r (λ e. e ≡ f) → outcome g h r ≡ refuses (h f)
carried g h (Ok x) f p = absurd p
carried g h (Err e) f p = ap (λ x. refuses (h x)) p

pub answered_err : {X E : Type 0} (h : E → Refusal) (r : Result X E) (f : E) → IsErrAnd r (λ e. e ≡ f) → answered h r ≡ Some (h f)
answered_err h (Ok x) f p = absurd p
answered_err h (Err e) f p = ap (λ x. Some (h x)) p

-- the fault that is given for a missing value
pub fault_missing : {X E : Type 0} (o : Option X) (e f : E) → Err e ≡ ok_or o f → o ≡ None → e ≡ f
fault_missing None e f p q = cc
fault_missing (Some x) e f p q = cc

-- the answer where a value is missing
pub answered_missing : {X Y E : Type 0} (h : E → Refusal) (r : Result Y E) (o : Option X) (e f : E) → IsErrAnd r (λ d. d ≡ e) → Err e ≡ ok_or o f → o ≡ None → answered h r ≡ Some (h f)
answered_missing h r o e f p q n = answered_err h r e p ∙ ap (λ d. Some (h d)) (fault_missing o e f q n)

-- sixteen bytes of which `Name::new` made a name, and of which it made none
pub name_made : (o : Option Name) (n : Name) (bs : List ℕ) → length bs ≡ 16 → option_map name_bytes o ≡ name_from bs → o ≡ Some n → (lawful_name bs ≡ true) × (name_bytes n ≡ bs)
name_made o n bs l e p = name_taken n bs l (sym (ap (option_map name_bytes) p) ∙ e)

pub name_missing : (o : Option Name) (bs : List ℕ) → length bs ≡ 16 → option_map name_bytes o ≡ name_from bs → o ≡ None → lawful_name bs ≡ false
name_missing o bs l e p = name_refused bs l (sym (ap (option_map name_bytes) p) ∙ e)
