-- The tests of the call, in their order, and what is answered when none holds.
use mathlib.Core.Path.{◌≡◌, refl, ap, sym, ◌∙◌}
use mathlib.Core.List.{List, [], ◌∷◌}
use mathlib.Core.Option.{none, some}
use Prim.Native.Nat.{ℕ, ◌≤◌, ◌<◌}
use borrow.Author.Tests.{lt-ltb, le-ltb}
use lib.ListN.{take, get_or}
use Rattle.std.specs.Prelude.{count_by, Option as Found, None}
use Rattle.std.specs.Option.{is_some, unwrap_or}
use Rattle.reading.specs.Table.{answered, refused}
use Rattle.share.specs.Shares.{Fraction, Shares, max_texts, texts, first_wrong, result, pooled, largest, ranked, shares}
use Rattle.share.specs.Steps.{fraction, largest_of}
use Rattle.share.specs.declared.Fraction.{Fraction as Reduced}

module _ (w : List ℕ) where
  pub too_many : max_texts < texts w → refused 27 (texts w) ≡ shares w
  unfolding shares
  too_many h = rw (lt-ltb max_texts (texts w) h)

  module _ (few : texts w ≤ max_texts) where
    pub some_wrong : (i : ℕ) → first_wrong w (texts w) ≡ some i → refused 28 i ≡ shares w
    unfolding shares
    some_wrong i e = rw (le-ltb max_texts (texts w) few, e)

    pub none_wrong : first_wrong w (texts w) ≡ none → answered (result (pooled w) (largest w)) ≡ shares w
    unfolding shares
    none_wrong e = rw (le-ltb max_texts (texts w) few, e)

    -- the two parts of an answer
    abbrev joined : Fraction → List (Found ℕ) → Shares
    joined x ps =
        record {
          numerator = x.numerator;
          denominator = x.denominator;
          count = count_by is_some ps;
          first = unwrap_or (get_or ps 0 None) 0;
          second = unwrap_or (get_or ps 1 None) 0;
          third = unwrap_or (get_or ps 2 None) 0;
        }

    -- of three places the indexes that are there
    three : (x : Fraction) (js : List ℕ) → joined x (largest_of js) ≡ result x (take 3 js)
    three x [] = refl
    three x (a ∷ []) = refl
    three x (a ∷ b ∷ []) = refl
    three x (a ∷ b ∷ c ∷ js) = refl

    -- the same with a fraction and the largest that the code found
    pub all_found : (f : Reduced) (ps : List (Found ℕ)) → none ≡ first_wrong w (texts w) → fraction f ≡ pooled w → ps ≡ largest_of (ranked w (texts w))
        → answered (joined (fraction f) ps) ≡ shares w
    all_found f ps e r s =
        ap (λ (x : Fraction). answered (joined x ps)) r ∙ ap (λ (qs : List (Found ℕ)). answered (joined (pooled w) qs)) s
        ∙ ap answered (three (pooled w) (ranked w (texts w))) ∙ none_wrong (sym e)
