-- The lawful names are the words, filled with spaces, that the rule of names admits. Assumes nothing.
use Rattle.std.proofs.Common.{◌≡◌, ℕ, zero, suc, ◌+◌, ◌-◌, ◌≤◌, Bool, true, false, cond, ◌&&◌, eqb, ◌⊎◌, List, [], ◌∷◌, ◌++◌, map, length, get_or, replicate, codes, sym, refl, ap, ◌∙◌, subst, ap₂, inl, inr, arith}
use Rattle.std.proofs.lemmas.Slice.Eq.{bytes_eq-Decides}
use Rattle.std.proofs.lemmas.List.{length-append, length-replicate}
use Rattle.std.proofs.lemmas.Bool.{and_parts, and_from, or_cases, or_parts, or_from, not-true, not_from_false, eqb-true, eq-eqb, false≢true}
use Rattle.std.proofs.lemmas.Bool.Decides.{not_from_Decides, nat_tests}
use Rattle.std.specs.List.{AllByRecursion}
use Rattle.std.specs.Str.{bytes_eq}
use Rattle.values.specs.Bytes.{each, spaces}
use Rattle.values.specs.Laws.{IsName, NamesAreWords}
use Rattle.values.specs.Named.{trimmed}
use Rattle.values.specs.Names.{among, filled, keywords, keyword_words, lawful_name, letter, name_byte, name_tail}
use Rattle.values.proofs.Filled.{each_replicate, each_same}
use Rattle.values.proofs.NameTails.{tail_more}

-- ---- a tail is the rest of a word and spaces

abbrev Named : List ℕ → Type 0
Named = AllByRecursion (λ b. name_byte b ≡ true)

record Split (bs : List ℕ) : Type 0 where
  word : List ℕ
  room : ℕ
  parts : bs ≡ word ++ replicate room 32
  named : Named word

tail_split : (bs : List ℕ) → name_tail bs ≡ true → Split bs
tail_split [] h = record { word = []; room = 0; parts = refl; named = tt }
tail_split (b ∷ bs) h = from (or_cases (name_byte b && name_tail bs) (spaces (b ∷ bs)) h) (tail_split bs)
  where
    from : ((name_byte b && name_tail bs) ≡ true) ⊎ (spaces (b ∷ bs) ≡ true) → (name_tail bs ≡ true → Split bs) → Split (b ∷ bs)
    from (inl k) rest =
        let p = and_parts (name_byte b) (name_tail bs) k in
        let s = rest p.1 in
        record { word = b ∷ s.word; room = s.room; parts = ap (λ (cs : List ℕ). b ∷ cs) s.parts; named = (p.0, s.named) }
    from (inr k) rest = record { word = []; room = suc (length bs); parts = each_same 32 (b ∷ bs) k; named = tt }

tail_spaces : (n : ℕ) → name_tail (replicate n 32) ≡ true
tail_spaces zero = refl
tail_spaces (suc n) = each_replicate (eqb 32) n 32 refl

tail_word : (w : List ℕ) (n : ℕ) → Named w → name_tail (w ++ replicate n 32) ≡ true
tail_word [] n h = tail_spaces n
tail_word (b ∷ w) n (h, k) = tail_more b (w ++ replicate n 32) h ∙ tail_word w n k

-- ---- a word is told by its filled bytes

trim_spaces : (n : ℕ) → trimmed (replicate n 32) ≡ []
trim_spaces zero = refl
trim_spaces (suc n) = refl

space_apart : (b : ℕ) → name_byte b ≡ true → eqb b 32 ≡ false
space_apart b h = grind (arith, nat_tests)

trim_word : (w : List ℕ) (n : ℕ) → Named w → trimmed (w ++ replicate n 32) ≡ w
trim_word [] n h = trim_spaces n
trim_word (b ∷ w) n (h, k) =
    ap₂ (λ (t : Bool) (cs : List ℕ). cond t [] (b ∷ cs)) (space_apart b h) (trim_word w n k)

same_words : (w k : List ℕ) → Named w → Named k → filled w ≡ filled k → w ≡ k
same_words w k p q e = sym (trim_word w (16 - length w) p) ∙ (ap trimmed e ∙ trim_word k (16 - length k) q)

-- ---- no keyword

apart : (xs ys : List ℕ) → (xs ≡ ys → ⊥) → bytes_eq xs ys ≡ false
apart xs ys h = from (bytes_eq xs ys) refl
  where
    from : (t : Bool) → bytes_eq xs ys ≡ t → t ≡ false
    from true e = absurd (h ((bytes_eq-Decides xs ys).0 e))
    from false e = refl

among_free : (w : List ℕ) (ks : List (List ℕ)) → among (filled w) (map filled ks) ≡ false → AllByRecursion (λ k. w ≡ k → ⊥) ks
among_free w [] h = tt
among_free w (k ∷ ks) h =
    let p = or_parts (bytes_eq (filled w) (filled k)) (among (filled w) (map filled ks)) h in (
      λ e. not_from_Decides _ (bytes_eq-Decides (filled w) (filled k)) p.0 (ap filled e),
      among_free w ks p.1,
    )

free_among : (w : List ℕ) (ks : List (List ℕ)) → Named w → AllByRecursion Named ks → AllByRecursion (λ k. w ≡ k → ⊥) ks → among (filled w) (map filled ks) ≡ false
free_among w [] n ns h = refl
free_among w (k ∷ ks) n (m, ns) (h, hs) =
    or_from (bytes_eq (filled w) (filled k)) (among (filled w) (map filled ks))
    (apart (filled w) (filled k) (λ e. h (same_words w k n m e)))
    (free_among w ks n ns hs)

named_word : (w : List ℕ) → each name_byte w ≡ true → Named w
named_word [] h = tt
named_word (b ∷ w) h = let p = and_parts (name_byte b) (each name_byte w) h in (p.0, named_word w p.1)

keywords_named : AllByRecursion Named keyword_words
keywords_named = (
  named_word (codes "select") refl,
  (
    named_word (codes "from") refl,
    (
      named_word (codes "where") refl,
      (
        named_word (codes "union") refl,
        (
          named_word (codes "intersection") refl,
          (named_word (codes "and") refl, (named_word (codes "or") refl, (named_word (codes "not") refl, tt))),
        ),
      ),
    ),
  ),
)

-- ---- both ways

letter_named : (b : ℕ) → letter b ≡ true → name_byte b ≡ true
letter_named b h = grind (arith, nat_tests)

lawful_word : (bs : List ℕ) → lawful_name bs ≡ true → IsName bs
unfolding lawful_name
lawful_word [] h = absurd (false≢true h)
lawful_word (b ∷ bs) h =
    let l = and_parts (eqb (length bs) 15) _ h in
    let f = and_parts (letter b) _ l.1 in
    let t = and_parts (name_tail bs) _ f.1 in
    from (tail_split bs t.0) (eqb-true (length bs) 15 l.0) f.0 (not-true (among (b ∷ bs) keywords) t.1)
  where
    from : Split bs → length bs ≡ 15 → letter b ≡ true → among (b ∷ bs) keywords ≡ false → IsName (b ∷ bs)
    from s l f k =
        let m : length bs ≡ length s.word + s.room = simp (length-append, length-replicate) at (ap length s.parts) in
        let n : s.room ≡ 16 - suc (length s.word) = omega arith in
        let e : b ∷ bs ≡ filled (b ∷ s.word) = ap (λ (cs : List ℕ). b ∷ cs) (s.parts ∙ ap (λ (r : ℕ). s.word ++ replicate r 32) n) in
        record {
          word = b ∷ s.word;
          filling = e;
          some = omega arith;
          short = omega arith;
          first = f;
          all = (letter_named b f, s.named);
          free = among_free (b ∷ s.word) keyword_words (subst (λ (cs : List ℕ). among cs keywords ≡ false) e k);
        }

filled_lawful :
    (w : List ℕ) →
    1 ≤ length w →
    length w ≤ 16 →
    letter (get_or w 0 0) ≡ true →
    Named w →
    AllByRecursion (λ k. w ≡ k → ⊥) keyword_words →
    lawful_name (filled w) ≡ true
unfolding lawful_name
filled_lawful [] h l f a k = absurd (omega arith)
filled_lawful (b ∷ w) h l f (p, a) k =
    let n = 16 - suc (length w) in
    and_from _ _ (eq-eqb (length (w ++ replicate n 32)) 15 (simp (length-append, length-replicate) (omega arith)))
    (and_from _ _ f (and_from _ _ (tail_word w n a) (not_from_false _ (free_among (b ∷ w) keyword_words (p, a) keywords_named k))))

word_lawful : (bs : List ℕ) → IsName bs → lawful_name bs ≡ true
word_lawful bs n = ap lawful_name n.filling ∙ filled_lawful n.word n.some n.short n.first n.all n.free

pub names_are_words : NamesAreWords
names_are_words bs = (lawful_word bs, word_lawful bs)
