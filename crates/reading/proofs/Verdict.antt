-- What the first byte that is left decides. `front m b`, which antt computes, says that m fails at once at this byte, without a report, an open
-- comment or a level; or that it fits, reads nothing and has no rows; or neither. `bare m` says the same at a `/` that begins no comment, which
-- one byte cannot tell. proofs/First has the laws.
use mathlib.Core.Path.{◌≡◌, refl, ap, ◌∙◌}
use mathlib.Core.Bool.{Bool, true, false, ◌&&◌, ◌||◌, not}
use mathlib.Core.List.{List, [], ◌∷◌}
use mathlib.Core.Option.{Option, none, some}
use Prim.Native.Nat.{ℕ, suc}
use native.Mathlib.Nat.{add-zero}
use lib.Dec.{T, eqb, eqb→eq}
use lib.ListN.{length, drop}
use Rattle.reading.specs.Byte.{bytes, is, line_end, lower, begins, begins_no_case, run, at_least_one, given}
use Rattle.reading.specs.Grammar.{Input, Leaf, one, run0, run1, tag, tag_no_case, comment_rest, Parser, empty, ◌▸◌, ◌or◌, never, many0, leaf, rule, unterminated, node, pick, over, scoped, import, argument, chain, bracket, braced, complain, expect, behind, one_of, taken}
use Rattle.reading.proofs.Bool.{and_left, and_right}

-- Verdicts -----------------------------------------------------------------

-- it fails at once; it fits, reads nothing and has no rows; it fits and reads nothing, with rows or not; it is the mark `//`; unknown
pub data Verdict : Type 0 where
  no nothing still marked maybe : Verdict

abbrev pub is_no : Verdict → Bool
is_no no = true
is_no nothing = false
is_no still = false
is_no marked = false
is_no maybe = false

pub is_no→ : (x : Verdict) → T (is_no x) → x ≡ no
is_no→ no t = refl
is_no→ nothing t = absurd t
is_no→ still t = absurd t
is_no→ marked t = absurd t
is_no→ maybe t = absurd t

-- with rows
abbrev pub rowed : Verdict → Verdict
rowed no = no
rowed nothing = still
rowed still = still
rowed marked = maybe
rowed maybe = maybe

-- one, and then the other
abbrev pub both : Verdict → Verdict → Verdict
both no y = no
both nothing y = y
both still y = rowed y
both marked y = maybe
both maybe y = maybe

-- the other, if one fails
abbrev pub either : Verdict → Verdict → Verdict
either no y = y
either nothing y = nothing
either still y = still
either marked y = maybe
either maybe y = maybe

-- what does more than read, where its part fits
abbrev pub refused : Verdict → Verdict
refused no = no
refused nothing = maybe
refused still = maybe
refused marked = maybe
refused maybe = maybe

abbrev pub opposite : Verdict → Verdict
opposite no = nothing
opposite nothing = no
opposite still = no
opposite marked = maybe
opposite maybe = maybe

abbrev pub repeated : Verdict → Verdict
repeated no = nothing
repeated nothing = maybe
repeated still = maybe
repeated marked = maybe
repeated maybe = maybe

-- a verdict where a test fails
abbrev pub judged : Bool → Verdict → Verdict
judged true x = maybe
judged false x = x

-- and at the end
abbrev pub unless : (ℕ → Bool) → Verdict → Option ℕ → Verdict
unless f x none = x
unless f x (some b) = judged (f b) x

-- at a line end, and at the end of the text, f says no
abbrev pub refuses : (Option ℕ → Verdict) → Bool
refuses f = is_no (f none) && (is_no (f (some 10)) && is_no (f (some 13)))

-- the same as both, where the other says y here and f elsewhere: behind a mark `//` that begins no comment the line ends
abbrev pub sequel : Verdict → Verdict → (Option ℕ → Verdict) → Verdict
sequel no y f = no
sequel nothing y f = y
sequel still y f = rowed y
sequel marked y f = judged (not (refuses f)) no
sequel maybe y f = maybe

abbrev pub front_tag : (ℕ → ℕ → Bool) → List ℕ → Option ℕ → Verdict
front_tag f [] x = maybe
front_tag f (a ∷ w) x = unless (f a) no x

abbrev pub front_leaf : Leaf → Option ℕ → Verdict
front_leaf (one f) x = unless f no x
front_leaf (run0 f) x = unless f nothing x
front_leaf (run1 f) x = unless f no x
front_leaf (tag w) x = front_tag eqb w x
front_leaf (tag_no_case w) x = front_tag (λ a b. eqb a (lower b)) w x
front_leaf comment_rest x = unless (λ b. true) no x

abbrev pub front_words : List (Leaf × ℕ) → Option ℕ → Verdict
front_words [] x = no
front_words (y ∷ ys) x = either (refused (front_leaf y.0 x)) (front_words ys x)

-- a character behind its trivia, which says v
abbrev pub front_char : ℕ → Verdict → Option ℕ → Verdict
front_char c v x = both v (rowed (unless (is c) no x))

-- the marks of comments, where no comment begins: `/*` is not there, and behind `//` the line ends
abbrev same : List ℕ → List ℕ → Bool
same [] [] = true
same [] (b ∷ t) = false
same (a ∷ w) [] = false
same (a ∷ w) (b ∷ t) = eqb a b && same w t

abbrev mark : Bool → Bool → Verdict → Verdict
mark true c x = no
mark false true x = marked
mark false false x = x

abbrev bare_tag : Bool → List ℕ → Verdict → Verdict
bare_tag false w x = x
bare_tag true w x = mark (same w (bytes "/*")) (same w (bytes "//")) x

abbrev pub bare_leaf : Bool → Leaf → Option ℕ → Verdict
bare_leaf s (one f) x = front_leaf (one f) x
bare_leaf s (run0 f) x = front_leaf (run0 f) x
bare_leaf s (run1 f) x = front_leaf (run1 f) x
bare_leaf s (tag w) x = bare_tag s w (front_leaf (tag w) x)
bare_leaf s (tag_no_case w) x = front_leaf (tag_no_case w) x
bare_leaf s comment_rest x = front_leaf comment_rest x

-- what m says at a byte, or at the end; s: no comment begins here
abbrev pub look : Bool → Parser → Option ℕ → Verdict
look s empty x = nothing
look s (m ▸ n) x = sequel (look s m x) (look s n x) (look false n)
look s (m or n) x = either (look s m x) (look s n x)
look s (never m) x = opposite (look s m x)
look s (many0 m) x = repeated (look s m x)
look s (leaf f) x = bare_leaf s f x
look s (rule y) x = maybe
look s unterminated x = maybe
look s (node k d t m) x = both (look s t x) (rowed (look s m x))
look s (pick k t xs) x = both (look s t x) (front_words xs x)
look s (over k d m n) x = both (look s m x) (rowed (look s n x))
look s (scoped k m n) x = both (look s m x) (refused (look s n x))
look s (import m n f b) x = refused (look s m x)
look s (argument t m) x = both (look s t x) (rowed (look s m x))
look s (chain o m) x = refused (look s m x)
look s (bracket t c m) x = refused (front_char c (look s t x) x)
look s (braced t m) x = refused (front_char 123 (look s t x) x)
look s (complain m) x = refused (look s m x)
look s (expect c m) x = maybe

abbrev pub front : Parser → Option ℕ → Verdict
front m x = look false m x

-- at a `/` that begins no comment
abbrev pub bare : Parser → Verdict
bare m = look true m (some 47)

-- the first byte that is left
abbrev pub first : List ℕ → Option ℕ
first [] = none
first (b ∷ t) = some b

abbrev pub look_at : Bool → Parser → Input → Verdict
look_at s m p = look s m (first p.left)

abbrev pub front_at : Parser → Input → Verdict
front_at m p = look_at false m p

-- Marks of comments --------------------------------------------------------

-- a line end, or the end
abbrev pub Ends : Option ℕ → Type 0
Ends none = Unit {0}
Ends (some b) = T (line_end b)

-- a `/` that begins no comment
pub record Bare (t : List ℕ) : Type 0 where
  pub slash : first t ≡ some 47
  pub star : begins (bytes "/*") t ≡ false
  pub ends : T (begins (bytes "//") t) → Ends (first (drop 2 t))

abbrev pub Given : Bool → List ℕ → Type 0
Given false t = Unit {0}
Given true t = Bare t

refuses_line : (f : Option ℕ → Verdict) (b : ℕ) (x y : Bool) → (T x → b ≡ 10) → (T y → b ≡ 13) → T (refuses f) → T (x || y) → f (some b) ≡ no
refuses_line f b true y h i t u =
    ap (λ c. f (some c)) (h tt)
    ∙ is_no→ (f (some 10)) (and_left (is_no (f (some 10))) (is_no (f (some 13))) (and_right (is_no (f none)) (is_no (f (some 10)) && is_no (f (some 13))) t))
refuses_line f b false true h i t u =
    ap (λ c. f (some c)) (i tt)
    ∙ is_no→ (f (some 13)) (and_right (is_no (f (some 10))) (is_no (f (some 13))) (and_right (is_no (f none)) (is_no (f (some 10)) && is_no (f (some 13))) t))
refuses_line f b false false h i t u = absurd u

pub refuses_end : (f : Option ℕ → Verdict) (x : Option ℕ) → T (refuses f) → Ends x → f x ≡ no
refuses_end f none t u = is_no→ (f none) (and_left (is_no (f none)) (is_no (f (some 10)) && is_no (f (some 13))) t)
refuses_end f (some b) t u = refuses_line f b (is 10 b) (is 13 b) (eqb→eq b 10) (eqb→eq b 13) t u

same→ : (w t : List ℕ) → T (same w t) → w ≡ t
same→ [] [] h = refl
same→ [] (b ∷ t) h = absurd h
same→ (a ∷ w) [] h = absurd h
same→ (a ∷ w) (b ∷ t) h =
    ap (◌∷ w) (eqb→eq a b (and_left (eqb a b) (same w t) h)) ∙ ap (b ∷◌) (same→ w t (and_right (eqb a b) (same w t) h))

-- Leaves -------------------------------------------------------------------

-- how many bytes of the text a leaf takes
abbrev pub Takes : Verdict → List ℕ → Option ℕ → Type 0
Takes no t o = o ≡ none
Takes nothing t o = o ≡ some 0
Takes still t o = o ≡ some 0
Takes marked t o = (o ≡ given (begins (bytes "//") t) 2) × (T (begins (bytes "//") t) → Ends (first (drop 2 t)))
Takes maybe t o = Unit {0}

given_takes : (x : Bool) (n : ℕ) (t : List ℕ) → Takes (judged x no) t (given x n)
given_takes true n t = tt
given_takes false n t = refl

run0_takes : (x : Bool) (n : ℕ) (t : List ℕ) → Takes (judged x nothing) t (some (elim x [ true ↦ suc n | false ↦ 0 ]))
run0_takes true n t = tt
run0_takes false n t = refl

run1_takes : (x : Bool) (n : ℕ) (t : List ℕ) → Takes (judged x no) t (at_least_one (elim x [ true ↦ suc n | false ↦ 0 ]))
run1_takes true n t = tt
run1_takes false n t = refl

tag_takes : (x y : Bool) (n : ℕ) (t : List ℕ) → Takes (judged x no) t (given (elim x [ true ↦ y | false ↦ false ]) n)
tag_takes true y n t = tt
tag_takes false y n t = refl

pub one_takes : (f : ℕ → Bool) (t : List ℕ) → Takes (unless f no (first t)) t (one_of f t)
one_takes f [] = refl
one_takes f (b ∷ t) = given_takes (f b) 1 (b ∷ t)

pub leaf_takes : (f : Leaf) (t : List ℕ) → Takes (front_leaf f (first t)) t (taken f t)
leaf_takes (one f) t = one_takes f t
leaf_takes (run0 f) [] = refl
leaf_takes (run0 f) (b ∷ t) = run0_takes (f b) (run f t) (b ∷ t)
leaf_takes (run1 f) [] = refl
leaf_takes (run1 f) (b ∷ t) = run1_takes (f b) (run f t) (b ∷ t)
leaf_takes (tag []) t = tt
leaf_takes (tag (a ∷ w)) [] = refl
leaf_takes (tag (a ∷ w)) (b ∷ t) = tag_takes (eqb a b) (begins w t) (length (a ∷ w)) (b ∷ t)
leaf_takes (tag_no_case []) t = tt
leaf_takes (tag_no_case (a ∷ w)) [] = refl
leaf_takes (tag_no_case (a ∷ w)) (b ∷ t) = tag_takes (eqb a (lower b)) (begins_no_case w t) (length (a ∷ w)) (b ∷ t)
leaf_takes comment_rest [] = refl
leaf_takes comment_rest (b ∷ t) = tt

mark_takes : (b c : Bool) (w t : List ℕ) (x : Verdict) → (T b → w ≡ bytes "/*") → (T c → w ≡ bytes "//") → Bare t
    → Takes x t (taken (tag w) t) → Takes (mark b c x) t (taken (tag w) t)
mark_takes true c w t x h i g e = ap (λ v. taken (tag v) t) (h tt) ∙ ap (λ y. given y 2) g.star
mark_takes false true w t x h i g e = (ap (λ v. taken (tag v) t) (i tt), g.ends)
mark_takes false false w t x h i g e = e

pub bare_takes : (s : Bool) (f : Leaf) (t : List ℕ) → Given s t → Takes (bare_leaf s f (first t)) t (taken f t)
bare_takes s (one f) t g = leaf_takes (one f) t
bare_takes s (run0 f) t g = leaf_takes (run0 f) t
bare_takes s (run1 f) t g = leaf_takes (run1 f) t
bare_takes false (tag w) t g = leaf_takes (tag w) t
bare_takes true (tag w) t g =
    mark_takes (same w (bytes "/*")) (same w (bytes "//")) w t (front_leaf (tag w) (first t)) (same→ w (bytes "/*")) (same→ w (bytes "//")) g
    (leaf_takes (tag w) t)
bare_takes s (tag_no_case w) t g = leaf_takes (tag_no_case w) t
bare_takes s comment_rest t g = leaf_takes comment_rest t

pub behind_none : (p : Input) → behind 0 p ≡ p
behind_none p = ap (λ n. record { at = n; left = p.left }) (add-zero p.at)
