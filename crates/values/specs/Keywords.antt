-- The keywords of the query language, and which of them bytes are. Assumes nothing.
use Rattle.std.specs.Prelude.{ℕ, List, [], ◌∷◌, codes, Option}
use Rattle.std.specs.List.{find}
use Rattle.std.specs.Str.{bytes_eq}
use Rattle.values.specs.Names.{filled}
use Rattle.values.specs.declared.keyword.Keyword.{Keyword}
use Rattle.values.specs.declared.keyword.Keyword.TheVariants.{Select, From, Where, Union, Intersection, And, Or, Not}

abbrev pub all_keywords : List Keyword
all_keywords = Select ∷ From ∷ Where ∷ Union ∷ Intersection ∷ And ∷ Or ∷ Not ∷ []

-- a keyword's sixteen bytes
abbrev pub letters_of : Keyword → List ℕ
letters_of Select = filled (codes "select")
letters_of From = filled (codes "from")
letters_of Where = filled (codes "where")
letters_of Union = filled (codes "union")
letters_of Intersection = filled (codes "intersection")
letters_of And = filled (codes "and")
letters_of Or = filled (codes "or")
letters_of Not = filled (codes "not")

-- the keyword whose bytes these are, if any
abbrev pub keyword_of : List ℕ → Option Keyword
keyword_of w = find (λ k. bytes_eq w (letters_of k)) all_keywords
