-- Runs of letters, digits and underscores are names, unless they are keywords. Assumes nothing.
use Rattle.std.proofs.Common.{◌≡◌, ℕ, ◌+◌, ◌-◌, ◌<◌, ◌≤◌, true, false, leb, List, [], ◌∷◌, map, length, get_or, Some, None, sym, ap, ◌∙◌, arith}
use Rattle.std.proofs.lemmas.List.Edits.{get_or-between, length-between}
use Rattle.std.proofs.lemmas.Slice.Eq.{bytes_eq-Decides}
use Rattle.std.proofs.lemmas.List.{get_or-map, length-map}
use Rattle.std.proofs.lemmas.List.Sums.{prefix_len-drop_yes}
use Rattle.std.proofs.lemmas.Bool.{and_parts, both_ways, leb-true, not-true, or_parts}
use Rattle.std.proofs.lemmas.Bool.Decides.{nat_tests}
use Rattle.std.specs.List.{between, AllByRecursion}
use Rattle.std.specs.Char.{to_ascii_lowercase}
use Rattle.std.specs.Str.{bytes_eq}
use Rattle.std.specs.Option.{is_some}
use Rattle.values.proofs.Filled.{filled_if_some}
use Rattle.values.proofs.Keys.{not_among}
use Rattle.values.proofs.NameWords.{names_are_words}
use Rattle.values.specs.Bytes.{each}
use Rattle.values.specs.Keywords.{keyword_of}
use Rattle.values.specs.Names.{among, filled, filled_if, keyword_words, keywords, lawful_name, letter, name_byte}
use Rattle.reader.specs.Classes.{begins_name, in_word, run_end}
use Rattle.reader.proofs.Runs.{run_each}

pub begins_letter : (b : ℕ) → begins_name b ≡ true → letter (to_ascii_lowercase b) ≡ true
begins_letter b h = grind (arith, nat_tests)

in-word : (b : ℕ) → in_word b ≡ true → name_byte (to_ascii_lowercase b) ≡ true
in-word b h = grind (arith, nat_tests)

begins_inside : (b : ℕ) → begins_name b ≡ true → in_word b ≡ true
begins_inside b h = grind (arith, nat_tests)

-- what is no keyword is none of the words that are
free_of : (w : List ℕ) (ks : List (List ℕ)) → among (filled w) (map filled ks) ≡ false → AllByRecursion (λ k. w ≡ k → ⊥) ks
free_of w [] h = tt
free_of w (k ∷ ks) h =
    let both = or_parts (bytes_eq (filled w) (filled k)) (among (filled w) (map filled ks)) h in
    (λ e. both_ways (bytes_eq (filled w) (filled k)) both.0 ((bytes_eq-Decides (filled w) (filled k)).1 (ap filled e)), free_of w ks both.1)

no_keyword : (w : List ℕ) → keyword_of (filled w) ≡ None → AllByRecursion (λ k. w ≡ k → ⊥) keyword_words
no_keyword w e = free_of w keyword_words (not-true (among (filled w) keywords) (sym (not_among (filled w) true (ap is_some e))))

all_lower : (xs : List ℕ) → each in_word xs ≡ true → AllByRecursion (λ b. name_byte b ≡ true) (map to_ascii_lowercase xs)
all_lower [] h = tt
all_lower (x ∷ xs) h =
    let p = and_parts (in_word x) (each in_word xs) h in
    (in-word x p.0, all_lower xs p.1)

-- the small letters of a run that begins with a letter are a lawful name, unless they are a keyword
pub run_lawful : (bs w : List ℕ) (at end : ℕ) → at < length bs → begins_name (get_or bs at 0) ≡ true → end ≡ run_end in_word bs at → end ≤ length bs → Some w ≡ filled_if (leb (length (between at end bs)) 16) (map to_ascii_lowercase (between at end bs)) → keyword_of w ≡ None → lawful_name w ≡ true
unfolding run_end
run_lawful bs w at end l h e m s n =
    let run = between at end bs in
    let letters = map to_ascii_lowercase run in
    let taken = filled_if_some (leb (length run) 16) letters w s in
    let short = leb-true (length run) 16 taken.0 in
    let count : length run ≡ end - at = length-between bs at end m in
    let small : length letters ≡ length run = length-map run to_ascii_lowercase in
    let some : at < end = omega (arith, e, prefix_len-drop_yes in_word bs at 0 l (begins_inside (get_or bs at 0) h)) in
    let z : at + 0 ≡ at = omega arith in
    let first : get_or letters 0 0 ≡ to_ascii_lowercase (get_or bs at 0) = get_or-map to_ascii_lowercase run 0 0 0 (omega arith) ∙ ap to_ascii_lowercase (get_or-between bs at end 0 0 (omega arith) ∙ ap (λ (j : ℕ). get_or bs j 0) z) in
    (names_are_words w).1 (record {
      word = letters;
      filling = taken.1;
      some = omega arith;
      short = omega arith;
      first = ap letter first ∙ begins_letter (get_or bs at 0) h;
      all = all_lower run (run_each in_word bs at end (omega (arith, e)));
      free = no_keyword letters (ap keyword_of (sym taken.1) ∙ n);
    })
