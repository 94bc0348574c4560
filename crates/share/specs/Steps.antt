-- What the parts of the calls promise one another.
use Rattle.std.specs.Prelude.{◌≡◌, Bool, true, List, [], ◌∷◌, ℕ, zero, suc, ◌<◌, drop, All as Each, IfSome, Option as Found, Some, None}
use Rattle.std.proofs.Math.Option.{Option, none, some}
use Rattle.share.specs.Claims.{All}
use Rattle.share.specs.Shares.{Fraction, texts, larger, placed}
use Rattle.share.specs.declared.Fraction.{Fraction as Reduced}

abbrev pub fraction : Reduced → Fraction
fraction x = record { numerator = x.numerator; denominator = x.denominator }

-- all of them have an earlier index than i
abbrev pub Before : ℕ → List ℕ → Type 0
Before i js = All (λ j. j < i) js

-- the first of a list
abbrev pub front : List ℕ → Found ℕ
front [] = None
front (i ∷ is) = Some i

-- the first n of a list, with None where there are fewer
abbrev pub places : ℕ → List ℕ → List (Found ℕ)
places zero is = []
places (suc n) is = front is ∷ places n (drop 1 is)

abbrev pub largest_of : List ℕ → List (Found ℕ)
largest_of = places 3

-- text i has a larger share than the text in a place, or there is none
abbrev pub goes_to : List ℕ → ℕ → Found ℕ → Bool
goes_to w i None = true
goes_to w i (Some j) = larger w i j

-- the texts in some places are texts
abbrev pub Inside : List ℕ → List (Found ℕ) → Type 0
Inside w ps = Each (λ p. IfSome p (λ j. j < texts w)) ps

-- what the places of a list in order become with text i among them
abbrev pub With : List ℕ → ℕ → List (Found ℕ) → List (Found ℕ) → Type 0
With w i ps qs = (js : List ℕ) → ps ≡ largest_of js → Before i js → qs ≡ largest_of (placed w i js)

-- an index that was found
abbrev pub found_at : Found ℕ → Option ℕ
found_at (Some i) = some i
found_at None = none
