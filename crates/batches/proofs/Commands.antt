-- What commands' bytes and operands tell: the cell commands, column types, names, and the heading that a cell stands under.
use Rattle.std.proofs.Common.{◌≡◌, ℕ, zero, suc, ◌<◌, Bool, true, false, cond, not, ◌&&◌, eqb, ◌⊎◌, List, [], ◌∷◌, ◌++◌, length, Some, None, Option, sym, refl, ap, subst, inl, inr, arith}
use Rattle.std.proofs.lemmas.Bool.{eqb-true, and_parts, cases_Bool, or_parts, or_from, both_ways}
use Rattle.std.proofs.lemmas.Bool.Decides.{not_from_Decides}
use Rattle.std.proofs.lemmas.Slice.Eq.{bytes_eq-Decides}
use Rattle.std.specs.Str.{bytes_eq}
use Rattle.values.specs.Cells.{Cell, null}
use Rattle.values.specs.Codes.{decoded, operand_cell, given, fits, byte_fits, type_byte, type_of}
use Rattle.values.specs.Names.{lawful_name, letter, name_tail, among, keywords}
use Rattle.values.specs.declared.kinds.ColumnType.{ColumnType}
use Rattle.values.specs.declared.kinds.ColumnType.TheVariants.{Integer, Real, Text}
use Rattle.batches.specs.Format.{operand_length}
use Rattle.batches.specs.Reading.{taken, cell_may}
use Rattle.batches.specs.Tables.{Heading, Named, Told, Apart, Distinct}

-- the bytes of the four cell commands
pub data CellByte : ℕ → Type 0 where
  nulls : CellByte 0x10
  integers : CellByte 0x11
  reals : CellByte 0x12
  texts : CellByte 0x13

pub cell_operand : {b : ℕ} → CellByte b → operand_length b ≡ 16
cell_operand nulls = refl
cell_operand integers = refl
cell_operand reals = refl
cell_operand texts = refl

pub cell_not_column : {b : ℕ} → CellByte b → eqb b 0x02 ≡ false
cell_not_column nulls = refl
cell_not_column integers = refl
cell_not_column reals = refl
cell_not_column texts = refl

pub cell_not_end : {b : ℕ} → CellByte b → eqb b 0x7F ≡ false
cell_not_end nulls = refl
cell_not_end integers = refl
cell_not_end reals = refl
cell_not_end texts = refl

byte_cases : (b k : ℕ) → (b ≡ k) ⊎ (eqb b k ≡ false)
byte_cases b k = elim (cases_Bool (eqb b k)) [ inl e ↦ inl (eqb-true b k e) | inr e ↦ inr e ]

-- a byte is a cell command's, or it is none
pub cell_cases : (b : ℕ) → CellByte b ⊎ ((eqb b 0x10 ≡ false) × (eqb b 0x11 ≡ false) × (eqb b 0x12 ≡ false) × (eqb b 0x13 ≡ false))
cell_cases b = elim (byte_cases b 0x10) [
  | inl e ↦ inl (subst CellByte (sym e) nulls)
  | inr p ↦ elim (byte_cases b 0x11) [
    | inl e ↦ inl (subst CellByte (sym e) integers)
    | inr q ↦ elim (byte_cases b 0x12) [
      | inl e ↦ inl (subst CellByte (sym e) reals)
      | inr r ↦ elim (byte_cases b 0x13) [
        | inl e ↦ inl (subst CellByte (sym e) texts)
        | inr s ↦ inr (p, q, r, s)
      ]
    ]
  ]
]

pub none_some : {A : Type 0} {P : Type 0} (a : A) (o : Option A) → o ≡ Some a → o ≡ None → P
none_some a o p q = absurd (let z : ◌≡◌ {A = ℕ} 0 1 = cc in omega arith)

-- what byte_fits lets stand is a cell command
pub fits_is_cell : (t : ColumnType) (b : ℕ) → byte_fits t b ≡ true → CellByte b
unfolding byte_fits
fits_is_cell Integer b h = elim (cell_cases b) [
  | inl c ↦ c
  | inr (p, q, r, s) ↦ absurd (both_ways (cond (eqb b 0x10) true (eqb b 0x11)) (rw (p, q)) h)
]
fits_is_cell Real b h = elim (cell_cases b) [
  | inl c ↦ c
  | inr (p, q, r, s) ↦ absurd (both_ways (cond (eqb b 0x10) true (eqb b 0x12)) (rw (p, r)) h)
]
fits_is_cell Text b h = elim (cell_cases b) [
  | inl c ↦ c
  | inr (p, q, r, s) ↦ absurd (both_ways (cond (eqb b 0x10) true (eqb b 0x13)) (rw (p, s)) h)
]

-- what stands for a cell begins with a cell command
operand_is_cell : (b : ℕ) (os : List ℕ) (c : Cell) → operand_cell b os ≡ Some c → CellByte b
operand_is_cell b os c h = elim (cell_cases b) [
  | inl x ↦ x
  | inr (p, q, r, s) ↦ none_some c (operand_cell b os) h (rw (p, q, r, s))
]

given_is : (t : Bool) (c d : Cell) → given t c ≡ Some d → d ≡ c
given_is true c d e = cc
given_is false c d e = none_some d None e refl

fits_by_kind : (t : ColumnType) (b : ℕ) (os : List ℕ) (c : Cell) → CellByte b → operand_cell b os ≡ Some c → byte_fits t b ≡ fits t c
unfolding byte_fits fits
fits_by_kind Integer b os c nulls h = rw (given_is _ null c h)
fits_by_kind Integer b os c integers h = rw (given_is _ _ c h)
fits_by_kind Integer b os c reals h = rw (given_is _ _ c h)
fits_by_kind Integer b os c texts h = rw (given_is _ _ c h)
fits_by_kind Real b os c nulls h = rw (given_is _ null c h)
fits_by_kind Real b os c integers h = rw (given_is _ _ c h)
fits_by_kind Real b os c reals h = rw (given_is _ _ c h)
fits_by_kind Real b os c texts h = rw (given_is _ _ c h)
fits_by_kind Text b os c nulls h = rw (given_is _ null c h)
fits_by_kind Text b os c integers h = rw (given_is _ _ c h)
fits_by_kind Text b os c reals h = rw (given_is _ _ c h)
fits_by_kind Text b os c texts h = rw (given_is _ _ c h)

-- the seventeen bytes of a cell, taken apart
pub record CellBytes (bs : List ℕ) (c : Cell) : Type 0 where
  pub byte : ℕ
  pub operand : List ℕ
  pub is : bs ≡ byte ∷ operand
  pub long : length operand ≡ 16
  pub command : CellByte byte
  pub same : (t : ColumnType) → byte_fits t byte ≡ fits t c

pub cell_bytes : (bs : List ℕ) (c : Cell) → decoded bs ≡ Some c → CellBytes bs c
unfolding decoded
cell_bytes [] c h = none_some c None h refl
cell_bytes (b ∷ os) c h = by_length (eqb (length os) 16) refl
  where
    by_length : (t : Bool) → eqb (length os) 16 ≡ t → CellBytes (b ∷ os) c
    by_length true e =
        let o : operand_cell b os ≡ Some c = rw e at h in
        let k : CellByte b = operand_is_cell b os c o in
        record {
          byte = b;
          operand = os;
          is = refl;
          long = eqb-true (length os) 16 e;
          command = k;
          same = λ t. fits_by_kind t b os c k o;
        }
    by_length false e = none_some c (cond (eqb (length os) 16) (operand_cell b os) None) h (rw e)

pub type_of_byte : (t : ColumnType) → type_of (type_byte t) ≡ Some t
type_of_byte Integer = refl
type_of_byte Real = refl
type_of_byte Text = refl

pub byte_of_type : (b : ℕ) (t : ColumnType) → type_of b ≡ Some t → b ≡ type_byte t
byte_of_type b t h = elim (byte_cases b 1) [
  | inl e ↦ let k : t ≡ Integer = let g : type_of 1 ≡ Some t = rw e at h in cc in rw (e, k)
  | inr p ↦ elim (byte_cases b 2) [
    | inl e ↦ let k : t ≡ Real = let g : type_of 2 ≡ Some t = rw e at h in cc in rw (e, k)
    | inr q ↦ elim (byte_cases b 3) [
      | inl e ↦ let k : t ≡ Text = let g : type_of 3 ≡ Some t = rw e at h in cc in rw (e, k)
      | inr r ↦ none_some t (type_of b) h (rw (p, q, r))
    ]
  ]
]

pub name_length : (n : List ℕ) → lawful_name n ≡ true → length n ≡ 16
unfolding lawful_name
name_length [] h = absurd (both_ways false refl h)
name_length (b ∷ bs) h =
    ap suc (eqb-true (length bs) 15 (and_parts (eqb (length bs) 15) (letter b && (name_tail bs && not (among (b ∷ bs) keywords))) h).0)

-- the cell command under the heading at its place
pub cell_may_at : (gs : List Heading) (h : Heading) (hs : List Heading) (b : ℕ) → cell_may (gs ++ h ∷ hs) (length gs) b ≡ byte_fits h.holds b
cell_may_at [] h hs b = refl
cell_may_at (g ∷ gs) h hs b = cell_may_at gs h hs b

-- a heading in its place among the others
pub record HeadingAt (hs : List Heading) (k : ℕ) : Type 0 where
  pub front : List Heading
  pub heading : Heading
  pub back : List Heading
  pub is : hs ≡ front ++ heading ∷ back
  pub before : length front ≡ k

pub heading_at_lem : (hs : List Heading) (k : ℕ) → k < length hs → HeadingAt hs k
heading_at_lem [] k l = absurd (omega arith)
heading_at_lem (h ∷ hs) zero l = record { front = []; heading = h; back = hs; is = refl; before = refl }
heading_at_lem (h ∷ hs) (suc k) l =
    let r = heading_at_lem hs k (omega arith) in
    record { front = h ∷ r.front; heading = r.heading; back = r.back; is = ap (λ x. h ∷ x) r.is; before = ap suc r.before }

-- a cell command stands under some heading
pub cell_may_is : (hs : List Heading) (k b : ℕ) → cell_may hs k b ≡ true → CellByte b × (k < length hs)
cell_may_is [] k b e = absurd (both_ways false refl e)
cell_may_is (h ∷ hs) zero b e = (fits_is_cell h.holds b e, omega arith)
cell_may_is (h ∷ hs) (suc k) b e = let r = cell_may_is hs k b e in (r.0, omega (arith, r.1))

pub same_not : (n m : List ℕ) → (n ≡ m → ⊥) → bytes_eq n m ≡ false
same_not n m ne = elim (cases_Bool (bytes_eq n m)) [ inl e ↦ absurd (ne ((bytes_eq-Decides n m).0 e)) | inr e ↦ e ]

apart_middle : (n : List ℕ) (ds : Told) (t : Named) (us : Told) → Apart n (ds ++ t ∷ us) → n ≡ t.name → ⊥
apart_middle n [] t us a = a.0
apart_middle n (d ∷ ds) t us a = apart_middle n ds t us a.1

apart_push : (n : List ℕ) (ds : Told) (t : Named) → Apart n ds → (n ≡ t.name → ⊥) → Apart n (ds ++ t ∷ [])
apart_push n [] t a ne = (ne, tt)
apart_push n (d ∷ ds) t a ne = (a.0, apart_push n ds t a.1 ne)

-- among differently named tables the name of one is not taken by those before it
pub distinct_free : (ds : Told) (t : Named) (us : Told) → Distinct (ds ++ t ∷ us) → taken t.name ds ≡ false
distinct_free [] t us d = refl
distinct_free (x ∷ ds) t us d =
    or_from (bytes_eq t.name x.name) (taken t.name ds) (same_not t.name x.name (λ e. apart_middle x.name ds t us d.0 (sym e))) (distinct_free ds t us d.1)

-- and a table with a name that is not taken may follow
pub distinct_push : (ds : Told) (t : Named) → Distinct ds → taken t.name ds ≡ false → Distinct (ds ++ t ∷ [])
distinct_push [] t d f = (tt, tt)
distinct_push (x ∷ ds) t d f =
    let p = or_parts (bytes_eq t.name x.name) (taken t.name ds) f in
    (apart_push x.name ds t d.0 (λ e. not_from_Decides (bytes_eq t.name x.name) (bytes_eq-Decides t.name x.name) p.0 (sym e)), distinct_push ds t d.1 p.1)
