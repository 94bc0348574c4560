-- Booleans: the small facts that the other laws share.
use mathlib.Core.Path.{◌≡◌, refl}
use mathlib.Core.Bool.{Bool, true, false, ◌&&◌, ◌||◌, true≢false}
use lib.Dec.{T}

pub and_left : (a b : Bool) → T (a && b) → T a
and_left true b t = tt
and_left false b t = t

pub and_right : (a b : Bool) → T (a && b) → T b
and_right true b t = t
and_right false b t = absurd t

-- the same where g is enough by itself
pub or_and_left : (g a b : Bool) → T (g || (a && b)) → T (g || a)
or_and_left true a b t = tt
or_and_left false a b t = and_left a b t

pub or_and_right : (g a b : Bool) → T (g || (a && b)) → T (g || b)
or_and_right true a b t = tt
or_and_right false a b t = and_right a b t

pub or_same : (b : Bool) → b || b ≡ b
or_same true = refl
or_same false = refl

pub neither : (a b : Bool) → a || b ≡ false → (a ≡ false) × (b ≡ false)
neither true b e = absurd (true≢false e)
neither false b e = (refl, e)
