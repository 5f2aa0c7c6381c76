-- Comparison of cells, and truths of three values. Assumes nothing.
use Rattle.std.specs.Prelude.{ℕ, ◌-◌, min, max, Bool, true, false, cond, List, [], ◌∷◌, Some, None, Option, ◌==◌, int_lt, nat_lt}
use Rattle.std.specs.declared.cmp.Ordering.TheVariants.{Less as below, Equal as level, Greater as above}
use Rattle.std.specs.declared.cmp.Ordering.{Ordering}
use Rattle.std.specs.Float.Ieee.{lt}
use Rattle.values.specs.Cells.{Cell, null, integer, real, text}
use Rattle.values.specs.declared.kinds.Comparison.{Comparison}
use Rattle.values.specs.declared.kinds.Comparison.TheVariants.{Equal, NotEqual, Less, Greater, LessOrEqual, GreaterOrEqual}
use Rattle.values.specs.declared.kinds.Truth.{Truth}
use Rattle.values.specs.declared.kinds.Truth.TheVariants.{False, Unknown, True}

-- an order from its two tests
abbrev pub order_by : Bool → Bool → Ordering
order_by less greater = cond less below (cond greater above level)

-- byte by byte: the first bytes that differ decide
abbrev pub by_bytes : List ℕ → List ℕ → Ordering
by_bytes [] [] = level
by_bytes [] (b ∷ bs) = below
by_bytes (a ∷ cs) [] = above
by_bytes (a ∷ cs) (b ∷ bs) = cond (nat_lt a b) below (cond (nat_lt b a) above (by_bytes cs bs))

-- How two cells of one kind compare. Where one is null, or the kinds differ, they do not.
unfoldable pub order_of : Cell → Cell → Option Ordering
order_of null d = None
order_of (integer a) null = None
order_of (integer a) (integer b) = Some (order_by (int_lt a b) (int_lt b a))
order_of (integer a) (real y) = None
order_of (integer a) (text bs) = None
order_of (real x) null = None
order_of (real x) (integer b) = None
order_of (real x) (real y) = Some (order_by (lt x y) (lt y x))
order_of (real x) (text bs) = None
order_of (text cs) null = None
order_of (text cs) (integer b) = None
order_of (text cs) (real y) = None
order_of (text cs) (text bs) = Some (by_bytes cs bs)

abbrev pub truth_if : Bool → Truth
truth_if true = True
truth_if false = False

abbrev pub passes : Comparison → Ordering → Bool
passes Equal below = false
passes Equal level = true
passes Equal above = false
passes NotEqual below = true
passes NotEqual level = false
passes NotEqual above = true
passes Less below = true
passes Less level = false
passes Less above = false
passes Greater below = false
passes Greater level = false
passes Greater above = true
passes LessOrEqual below = true
passes LessOrEqual level = true
passes LessOrEqual above = false
passes GreaterOrEqual below = false
passes GreaterOrEqual level = true
passes GreaterOrEqual above = true

abbrev pub truth_from : Comparison → Option Ordering → Truth
truth_from op None = Unknown
truth_from op (Some o) = truth_if (passes op o)

-- a comparison's truth: unknown where the cells do not compare
unfoldable pub compared : Comparison → Cell → Cell → Truth
unfolding order_of
compared op c d = truth_from op (order_of c d)

-- false, unknown and true in rising order
abbrev pub rank : Truth → ℕ
rank False = 0
rank Unknown = 1
rank True = 2

abbrev pub of_rank : ℕ → Truth
of_rank n = cond (n == 0) False (cond (n == 1) Unknown True)

-- and takes the lesser, or the greater, and not swaps the ends
abbrev pub both : Truth → Truth → Truth
both p q = of_rank (min (rank p) (rank q))

abbrev pub either : Truth → Truth → Truth
either p q = of_rank (max (rank p) (rank q))

abbrev pub opposite : Truth → Truth
opposite p = of_rank (2 - rank p)
