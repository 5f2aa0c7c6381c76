-- The keywords as a list of names, and as kinds. Assumes nothing.
use Rattle.std.proofs.Common.{◌≡◌, ℕ, Bool, true, false, cond, not, ◌||◌, List, [], ◌∷◌, map, Some, sym, refl, ap, ◌∙◌}
use Rattle.std.specs.List.{find}
use Rattle.std.specs.Option.{is_some}
use Rattle.std.specs.Str.{bytes_eq}
use Rattle.values.specs.Keywords.{all_keywords, keyword_of, letters_of}
use Rattle.values.specs.Names.{among, keywords}
use Rattle.values.specs.declared.keyword.Keyword.{Keyword}

found_or : (w : List ℕ) (k : Keyword) (ks : List Keyword) (t : Bool) → is_some (find (λ j. bytes_eq w (letters_of j)) ks) ≡ among w (map letters_of ks) → is_some (cond t (Some k) (find (λ j. bytes_eq w (letters_of j)) ks)) ≡ (t || among w (map letters_of ks))
found_or w k ks true e = refl
found_or w k ks false e = e

found_among : (w : List ℕ) (ks : List Keyword) → is_some (find (λ k. bytes_eq w (letters_of k)) ks) ≡ among w (map letters_of ks)
found_among w [] = refl
found_among w (k ∷ ks) = found_or w k ks (bytes_eq w (letters_of k)) (found_among w ks)

turned : (s t : Bool) → s ≡ not t → t ≡ not s
turned s true e = sym (ap not e)
turned s false e = sym (ap not e)

-- bytes are no keyword just where they are not among the keywords
pub not_among : (w : List ℕ) (t : Bool) → is_some (keyword_of w) ≡ not t → t ≡ not (among w keywords)
not_among w t e = turned (is_some (keyword_of w)) t e ∙ ap not (found_among w all_keywords)
