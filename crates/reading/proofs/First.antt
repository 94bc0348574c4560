-- The laws of `front` and `bare`: where they say that a parser fails at once, so it does; where they say that it fits and reads nothing, so it
-- does. So a reader may look at a byte and go to one alternative: those that it leaves out would have failed. One lemma for each way of combining
-- replies, one induction over the parsers; then the same for summaries.
use mathlib.Core.Path.{◌≡◌, refl, ap, ◌∙◌, sym, subst}
use mathlib.Core.Bool.{Bool, true, false, not}
use mathlib.Core.List.{List, [], ◌∷◌, ◌++◌}
use mathlib.Core.Option.{Option}
use Prim.Native.Nat.{ℕ}
use native.Mathlib.Nat.{max-zero, zero-max}
use lib.Dec.{T}
use lib.ListN.{drop}
use Rattle.reading.specs.Byte.{bytes, is, begins, given}
use Rattle.reading.specs.Kind.{charᵏ}
use Rattle.reading.specs.Grammar.{Row, Rows, State, Input, Reply, ok, err, Leaf, Rule, Parser, empty, ◌▸◌, ◌or◌, never, many0, leaf, rule, unterminated, node, pick, over, scoped, import, argument, chain, bracket, braced, complain, expect, joined, under, first_low, placed, Act, behind, then, else, with, turned, last_round, next_round, rounds, one_of, taken, take, always, located, char_at, picked, pick_word, parse}
use Rattle.reading.specs.Summary.{Summary, fits, fails, more, thenˢ, elseˢ, withˢ, turnedˢ, last_roundˢ, next_roundˢ, Scan, roundsˢ, takeˢ, locatedˢ, char_atˢ, pickedˢ, pick_wordˢ, scan}
use Rattle.reading.proofs.Verdict.{Verdict, no, nothing, still, marked, maybe, rowed, both, either, refused, opposite, repeated, judged, unless, refuses, sequel, front_leaf, front_words, front_char, look, bare, first, look_at, front_at, Ends, Bare, Given, refuses_end, Takes, one_takes, leaf_takes, bare_takes, behind_none}

-- Replies ------------------------------------------------------------------

-- a mark of two bytes, or not
abbrev mark_reply : {A : Type 0} → Bool → Input → State → Reply (List A)
mark_reply true p w = ok [] (behind 2 p) w
mark_reply false p w = err w

abbrev MarkEnds : Input → Type 0
MarkEnds p = T (begins (bytes "//") p.left) → Ends (first (drop 2 p.left))

-- what a verdict says of a reply
abbrev pub Decides : {A : Type 0} → Verdict → Input → State → Reply (List A) → Type 0
Decides no p w r = r ≡ err w
Decides nothing p w r = r ≡ ok [] p w
Decides {A} still p w r = (a : List A) × (r ≡ ok a p w)
Decides marked p w r = (r ≡ mark_reply (begins (bytes "//") p.left) p w) × MarkEnds p
Decides maybe p w r = Unit {0}

module _ (p : Input) (w : State) where
  mark_with : {A B : Type 0} (f : List A → List B) (b : Bool) → f [] ≡ [] → with f (mark_reply b p w) ≡ mark_reply b p w
  mark_with f true e = ap (λ a. ok a (behind 2 p) w) e
  mark_with f false e = refl

  mark_take : (b : Bool) → take (given b 2) p w ≡ mark_reply b p w
  mark_take true = refl
  mark_take false = refl

  mark_pair : (b : Bool) (n : Input → State → Reply Rows)
      → (T b → n (behind 2 p) w ≡ err w) → then (mark_reply b p w) (λ a q v. with (a ++◌) (n q v)) ≡ err w
  mark_pair true n h = ap (with ([] ++◌)) (h tt)
  mark_pair false n h = refl

  judged_decides : {A : Type 0} (b : Bool) (r : Reply (List A)) → (T b → r ≡ err w) → Decides (judged (not b) no) p w r
  judged_decides true r h = h tt
  judged_decides false r h = tt

  same_decides : {A : Type 0} (x : Verdict) (r s : Reply (List A)) → r ≡ s → Decides x p w s → Decides x p w r
  same_decides no r s e h = e ∙ h
  same_decides nothing r s e h = e ∙ h
  same_decides still r s e h = (h.0, e ∙ h.1)
  same_decides marked r s e h = (e ∙ h.0, h.1)
  same_decides maybe r s e h = tt

  rowed_decides : {A : Type 0} (x : Verdict) (r : Reply (List A)) → Decides x p w r → Decides (rowed x) p w r
  rowed_decides no r h = h
  rowed_decides nothing r h = ([], h)
  rowed_decides still r h = h
  rowed_decides marked r h = tt
  rowed_decides maybe r h = tt

  -- where what follows does not rest on the rows in front
  then_decides : {A B : Type 0} (x y : Verdict) (r : Reply (List A)) (f : List A → Input → State → Reply (List B))
      → Decides x p w r → ((a : List A) → Decides y p w (f a p w)) → Decides (both x y) p w (then r f)
  then_decides no y r f h i = ap (λ z. then z f) h
  then_decides nothing y r f h i = same_decides y (then r f) (f [] p w) (ap (λ z. then z f) h) (i [])
  then_decides still y r f h i =
      same_decides (rowed y) (then r f) (f h.0 p w) (ap (λ z. then z f) h.1) (rowed_decides y (f h.0 p w) (i h.0))
  then_decides marked y r f h i = tt
  then_decides maybe y r f h i = tt

  with_decides : {A B : Type 0} (x : Verdict) (f : List A → List B) (r : Reply (List A)) → f [] ≡ [] → Decides x p w r → Decides x p w (with f r)
  with_decides no f r e h = ap (with f) h
  with_decides nothing f r e h = ap (with f) h ∙ ap (λ a. ok a p w) e
  with_decides still f r e h = (f h.0, ap (with f) h.1)
  with_decides marked f r e h = (ap (with f) h.0 ∙ mark_with f (begins (bytes "//") p.left) e, h.1)
  with_decides maybe f r e h = tt

  behind_decides : {A : Type 0} (x : Verdict) (a : List A) (r : Reply (List A)) → Decides x p w r → Decides (rowed x) p w (with (a ++◌) r)
  behind_decides no a r h = ap (with (a ++◌)) h
  behind_decides nothing a r h = (a ++ [], ap (with (a ++◌)) h)
  behind_decides still a r h = (a ++ h.0, ap (with (a ++◌)) h.1)
  behind_decides marked a r h = tt
  behind_decides maybe a r h = tt

  pair_decides : (x y : Verdict) (f : Option ℕ → Verdict) (r : Reply Rows) (n : Input → State → Reply Rows)
      → Decides x p w r → Decides y p w (n p w) → ((q : Input) → Decides (f (first q.left)) q w (n q w))
      → Decides (sequel x y f) p w (then r λ a q v. with (a ++◌) (n q v))
  pair_decides no y f r n h i k = ap (λ z. then z λ a q v. with (a ++◌) (n q v)) h
  pair_decides nothing y f r n h i k =
      same_decides y (then r λ a q v. with (a ++◌) (n q v)) (with ([] ++◌) (n p w)) (ap (λ z. then z λ a q v. with (a ++◌) (n q v)) h)
      (with_decides y ([] ++◌) (n p w) refl i)
  pair_decides still y f r n h i k =
      same_decides (rowed y) (then r λ a q v. with (a ++◌) (n q v)) (with (h.0 ++◌) (n p w)) (ap (λ z. then z λ a q v. with (a ++◌) (n q v)) h.1)
      (behind_decides y h.0 (n p w) i)
  pair_decides marked y f r n h i k =
      judged_decides (refuses f) (then r λ a q v. with (a ++◌) (n q v))
      λ t. ap (λ z. then z λ a q v. with (a ++◌) (n q v)) h.0
      ∙ mark_pair (begins (bytes "//") p.left) n
      λ u. subst (λ x. Decides x (behind 2 p) w (n (behind 2 p) w)) (refuses_end f (first (drop 2 p.left)) t (h.1 u)) (k (behind 2 p))
  pair_decides maybe y f r n h i k = tt

  -- rows around it, and nothing else
  value_decides : {A B : Type 0} (x : Verdict) (r : Reply (List A)) (f : List A → Input → List B)
      → Decides x p w r → Decides (rowed x) p w (then r λ a q v. ok (f a q) q v)
  value_decides no r f h = ap (λ z. then z λ a q v. ok (f a q) q v) h
  value_decides nothing r f h = (f [] p, ap (λ z. then z λ a q v. ok (f a q) q v) h)
  value_decides still r f h = (f h.0 p, ap (λ z. then z λ a q v. ok (f a q) q v) h.1)
  value_decides marked r f h = tt
  value_decides maybe r f h = tt

  refused_decides : {A B : Type 0} (x : Verdict) (r : Reply (List A)) (f : List A → Input → State → Reply (List B))
      → Decides x p w r → Decides (refused x) p w (then r f)
  refused_decides no r f h = ap (λ z. then z f) h
  refused_decides nothing r f h = tt
  refused_decides still r f h = tt
  refused_decides marked r f h = tt
  refused_decides maybe r f h = tt

  else_decides : {A : Type 0} (x y : Verdict) (r : Reply (List A)) (f : State → Reply (List A))
      → Decides x p w r → Decides y p w (f w) → Decides (either x y) p w (else r f)
  else_decides no y r f h i = same_decides y (else r f) (f w) (ap (λ z. else z f) h) i
  else_decides nothing y r f h i = ap (λ z. else z f) h
  else_decides still y r f h i = (h.0, ap (λ z. else z f) h.1)
  else_decides marked y r f h i = tt
  else_decides maybe y r f h i = tt

  turned_decides : {A : Type 0} (x : Verdict) (r : Reply (List A)) → Decides x p w r → Decides (opposite x) p w (turned p r)
  turned_decides no r h = ap (turned p) h
  turned_decides nothing r h = ap (turned p) h
  turned_decides still r h = ap (turned p) h.1
  turned_decides marked r h = tt
  turned_decides maybe r h = tt

  rounds_decide : {A : Type 0} (x : Verdict) (m : Act (List A)) (f : List ℕ) (l : ℕ)
      → Decides x p w (m l p w) → Decides (repeated x) p w (rounds m f l p w)
  rounds_decide no m [] l h = ap (last_round p) h
  rounds_decide no m (b ∷ f) l h = ap (λ z. next_round p z λ q v. rounds m f l q v) h
  rounds_decide nothing m f l h = tt
  rounds_decide still m f l h = tt
  rounds_decide marked m f l h = tt
  rounds_decide maybe m f l h = tt

  take_decides : (x : Verdict) (o : Option ℕ) → Takes x p.left o → Decides x p w (take o p w)
  take_decides no o h = ap (λ z. take z p w) h
  take_decides nothing o h = ap (λ z. take z p w) h ∙ ap (λ q. ok [] q w) (behind_none p)
  take_decides still o h = ([], ap (λ z. take z p w) h ∙ ap (λ q. ok [] q w) (behind_none p))
  take_decides marked o h = (ap (λ z. take z p w) h.0 ∙ mark_take (begins (bytes "//") p.left), h.1)
  take_decides maybe o h = tt

  located_decides : (k : ℕ) (d : Rows → ℕ) (x y : Verdict) (r : Reply Rows) (f : Input → State → Reply Rows)
      → Decides x p w r → Decides y p w (f p w) → Decides (both x (rowed y)) p w (located k d p r f)
  located_decides k d x y r f h i =
      then_decides x (rowed y) r _ h λ _. value_decides y (f p w) (λ a s. under k (d a) p.at p.at s.at a) i

  char_at_decides : (c : ℕ) (x : Verdict) (r : Reply Rows) → Decides x p w r → Decides (front_char c x (first p.left)) p w (char_at c p r)
  char_at_decides c x r h =
      located_decides charᵏ (always c) x (unless (is c) no (first p.left)) r (λ q v. take (one_of (is c) q.left) q v) h
      (take_decides (unless (is c) no (first p.left)) (one_of (is c) p.left) (one_takes (is c) p.left))

  picked_decides : (k t d : ℕ) (x y : Verdict) (o : Option ℕ) (r : Reply Rows)
      → Takes x p.left o → Decides y p w r → Decides (either (refused x) y) p w (picked k t d o p w r)
  picked_decides k t d no y o r h i = same_decides y (picked k t d o p w r) r (ap (λ z. picked k t d z p w r) h) i
  picked_decides k t d nothing y o r h i = tt
  picked_decides k t d still y o r h i = tt
  picked_decides k t d marked y o r h i = tt
  picked_decides k t d maybe y o r h i = tt

  words_decide : (k t : ℕ) (xs : List (Leaf × ℕ)) → Decides (front_words xs (first p.left)) p w (pick_word k t xs p w)
  words_decide k t [] = refl
  words_decide k t (x ∷ xs) =
      picked_decides k t x.1 (front_leaf x.0 (first p.left)) (front_words xs (first p.left)) (taken x.0 p.left) (pick_word k t xs p w)
      (leaf_takes x.0 p.left) (words_decide k t xs)

-- Parsers ------------------------------------------------------------------

module _ (ρ : Rule → Act Rows) where
  pub decides : (m : Parser) (s : Bool) (l : ℕ) (p : Input) (w : State) → Given s p.left → Decides (look_at s m p) p w (parse ρ m l p w)
  decides empty s l p w g = refl
  decides (m ▸ n) s l p w g =
      pair_decides p w (look_at s m p) (look_at s n p) (look false n) (parse ρ m l p w) (λ q v. parse ρ n l q v) (decides m s l p w g) (decides n s l p w g)
      λ q. decides n false l q w tt
  decides (m or n) s l p w g = else_decides p w (look_at s m p) (look_at s n p) (parse ρ m l p w) _ (decides m s l p w g) (decides n s l p w g)
  decides (never m) s l p w g = turned_decides p w (look_at s m p) (parse ρ m l p w) (decides m s l p w g)
  decides (many0 m) s l p w g =
      with_decides p w (repeated (look_at s m p)) joined (rounds (parse ρ m) p.left l p w) refl
      (rounds_decide p w (look_at s m p) (parse ρ m) p.left l (decides m s l p w g))
  decides (leaf f) s l p w g = take_decides p w (look_at s (leaf f) p) (taken f p.left) (bare_takes s f p.left g)
  decides (rule y) s l p w g = tt
  decides unterminated s l p w g = tt
  decides (node k d t m) s l p w g =
      located_decides p w k d (look_at s t p) (look_at s m p) (parse ρ t l p w) (λ q v. parse ρ m l q v) (decides t s l p w g) (decides m s l p w g)
  decides (pick k t xs) s l p w g =
      then_decides p w (look_at s t p) (front_words xs (first p.left)) (parse ρ t l p w) _ (decides t s l p w g) λ _. words_decide p w k p.at xs
  decides (over k d m n) s l p w g =
      then_decides p w (look_at s m p) (rowed (look_at s n p)) (parse ρ m l p w) _ (decides m s l p w g)
      λ a. value_decides p w (look_at s n p) (parse ρ n l p w) (λ b r. under k d p.at (first_low a) r.at (a ++ b)) (decides n s l p w g)
  decides (scoped k m n) s l p w g =
      then_decides p w (look_at s m p) (refused (look_at s n p)) (parse ρ m l p w) _ (decides m s l p w g)
      λ a. refused_decides p w (look_at s n p) (parse ρ n l p w) _ (decides n s l p w g)
  decides (import m n f b) s l p w g = refused_decides p w (look_at s m p) (parse ρ m l p w) _ (decides m s l p w g)
  decides (argument t m) s l p w g =
      then_decides p w (look_at s t p) (rowed (look_at s m p)) (parse ρ t l p w) _ (decides t s l p w g)
      λ _. value_decides p w (look_at s m p) (parse ρ m l p w) (λ a r. placed p.at p.at r.at a) (decides m s l p w g)
  decides (chain o m) s l p w g = refused_decides p w (look_at s m p) (parse ρ m l p w) _ (decides m s l p w g)
  decides (bracket t c m) s l p w g =
      refused_decides p w (front_char c (look_at s t p) (first p.left)) (char_at c p (parse ρ t l p w)) _
      (char_at_decides p w c (look_at s t p) (parse ρ t l p w) (decides t s l p w g))
  decides (braced t m) s l p w g =
      refused_decides p w (front_char 123 (look_at s t p) (first p.left)) (char_at 123 p (parse ρ t l p w)) _
      (char_at_decides p w 123 (look_at s t p) (parse ρ t l p w) (decides t s l p w g))
  decides (complain m) s l p w g = refused_decides p w (look_at s m p) (parse ρ m l p w) _ (decides m s l p w g)
  decides (expect c m) s l p w g = tt

  -- it fails at once, and leaves the state as it was
  pub parse_no : (m : Parser) (l : ℕ) (p : Input) (w : State) → front_at m p ≡ no → parse ρ m l p w ≡ err w
  parse_no m l p w e = subst (λ x. Decides x p w (parse ρ m l p w)) e (decides m false l p w tt)

  pub parse_nothing : (m : Parser) (l : ℕ) (p : Input) (w : State) → front_at m p ≡ nothing → parse ρ m l p w ≡ ok [] p w
  parse_nothing m l p w e = subst (λ x. Decides x p w (parse ρ m l p w)) e (decides m false l p w tt)

  -- at a `/` that begins no comment
  pub parse_bare : (m : Parser) (l : ℕ) (p : Input) (w : State) → Bare p.left → bare m ≡ no → parse ρ m l p w ≡ err w
  parse_bare m l p w g e = subst (λ x. Decides x p w (parse ρ m l p w)) (ap (look true m) g.slash ∙ e) (decides m true l p w g)

  -- an alternative that fails at once may be left out
  pub parse_first : (m n : Parser) (l : ℕ) (p : Input) (w : State) → ((v : State) → parse ρ n l p v ≡ err v) → parse ρ (m or n) l p w ≡ parse ρ m l p w
  parse_first m n l p w e = go (parse ρ m l p w)
    where
      go : (r : Reply Rows) → else r (λ v. parse ρ n l p v) ≡ r
      go (ok a q v) = refl
      go (err v) = e v

  pub parse_second : (m n : Parser) (l : ℕ) (p : Input) (w : State) → parse ρ m l p w ≡ err w → parse ρ (m or n) l p w ≡ parse ρ n l p w
  parse_second m n l p w e = ap (λ r. else r λ v. parse ρ n l p v) e

-- Summaries ----------------------------------------------------------------

abbrev mark_summary : {A : Type 0} → Bool → Input → Summary (List A)
mark_summary true p = fits [] (behind 2 p) false 0
mark_summary false p = fails false 0

pub more_none : {A : Type 0} (s : Summary A) → more false 0 s ≡ s
more_none (fits a q b k) = ap (fits a q b) (zero-max k)
more_none (fails b k) = ap (fails b) (zero-max k)

-- the same for a summary
abbrev pub Decidesˢ : {A : Type 0} → Verdict → Input → Summary (List A) → Type 0
Decidesˢ no p s = s ≡ fails false 0
Decidesˢ nothing p s = s ≡ fits [] p false 0
Decidesˢ {A} still p s = (a : List A) × (s ≡ fits a p false 0)
Decidesˢ marked p s = (s ≡ mark_summary (begins (bytes "//") p.left) p) × MarkEnds p
Decidesˢ maybe p s = Unit {0}

module _ (p : Input) where
  mark_withˢ : {A B : Type 0} (f : List A → List B) (b : Bool) → f [] ≡ [] → withˢ f (mark_summary b p) ≡ mark_summary b p
  mark_withˢ f true e = ap (λ a. fits a (behind 2 p) false 0) e
  mark_withˢ f false e = refl

  mark_takeˢ : (b : Bool) → takeˢ (given b 2) p ≡ mark_summary b p
  mark_takeˢ true = refl
  mark_takeˢ false = refl

  mark_pairˢ : (b : Bool) (n : Input → Summary Rows)
      → (T b → n (behind 2 p) ≡ fails false 0) → thenˢ (mark_summary b p) (λ a q. withˢ (a ++◌) (n q)) ≡ fails false 0
  mark_pairˢ true n h = ap (λ z. more false 0 (withˢ ([] ++◌) z)) (h tt)
  mark_pairˢ false n h = refl

  judged_decidesˢ : {A : Type 0} (b : Bool) (s : Summary (List A)) → (T b → s ≡ fails false 0) → Decidesˢ (judged (not b) no) p s
  judged_decidesˢ true s h = h tt
  judged_decidesˢ false s h = tt

  -- behind a summary with no open comment and no level
  more_decides : {A : Type 0} (x : Verdict) (r s : Summary (List A)) → r ≡ more false 0 s → Decidesˢ x p s → Decidesˢ x p r
  more_decides no r s e h = e ∙ more_none s ∙ h
  more_decides nothing r s e h = e ∙ more_none s ∙ h
  more_decides still r s e h = (h.0, e ∙ more_none s ∙ h.1)
  more_decides marked r s e h = (e ∙ more_none s ∙ h.0, h.1)
  more_decides maybe r s e h = tt

  rowed_decidesˢ : {A : Type 0} (x : Verdict) (s : Summary (List A)) → Decidesˢ x p s → Decidesˢ (rowed x) p s
  rowed_decidesˢ no s h = h
  rowed_decidesˢ nothing s h = ([], h)
  rowed_decidesˢ still s h = h
  rowed_decidesˢ marked s h = tt
  rowed_decidesˢ maybe s h = tt

  then_decidesˢ : {A B : Type 0} (x y : Verdict) (s : Summary (List A)) (f : List A → Input → Summary (List B))
      → Decidesˢ x p s → ((a : List A) → Decidesˢ y p (f a p)) → Decidesˢ (both x y) p (thenˢ s f)
  then_decidesˢ no y s f h i = ap (λ z. thenˢ z f) h
  then_decidesˢ nothing y s f h i = more_decides y (thenˢ s f) (f [] p) (ap (λ z. thenˢ z f) h) (i [])
  then_decidesˢ still y s f h i =
      more_decides (rowed y) (thenˢ s f) (f h.0 p) (ap (λ z. thenˢ z f) h.1) (rowed_decidesˢ y (f h.0 p) (i h.0))
  then_decidesˢ marked y s f h i = tt
  then_decidesˢ maybe y s f h i = tt

  with_decidesˢ : {A B : Type 0} (x : Verdict) (f : List A → List B) (s : Summary (List A)) → f [] ≡ [] → Decidesˢ x p s → Decidesˢ x p (withˢ f s)
  with_decidesˢ no f s e h = ap (withˢ f) h
  with_decidesˢ nothing f s e h = ap (withˢ f) h ∙ ap (λ a. fits a p false 0) e
  with_decidesˢ still f s e h = (f h.0, ap (withˢ f) h.1)
  with_decidesˢ marked f s e h = (ap (withˢ f) h.0 ∙ mark_withˢ f (begins (bytes "//") p.left) e, h.1)
  with_decidesˢ maybe f s e h = tt

  behind_decidesˢ : {A : Type 0} (x : Verdict) (a : List A) (s : Summary (List A)) → Decidesˢ x p s → Decidesˢ (rowed x) p (withˢ (a ++◌) s)
  behind_decidesˢ no a s h = ap (withˢ (a ++◌)) h
  behind_decidesˢ nothing a s h = (a ++ [], ap (withˢ (a ++◌)) h)
  behind_decidesˢ still a s h = (a ++ h.0, ap (withˢ (a ++◌)) h.1)
  behind_decidesˢ marked a s h = tt
  behind_decidesˢ maybe a s h = tt

  pair_decidesˢ : (x y : Verdict) (f : Option ℕ → Verdict) (s : Summary Rows) (n : Input → Summary Rows)
      → Decidesˢ x p s → Decidesˢ y p (n p) → ((q : Input) → Decidesˢ (f (first q.left)) q (n q))
      → Decidesˢ (sequel x y f) p (thenˢ s λ a q. withˢ (a ++◌) (n q))
  pair_decidesˢ no y f s n h i k = ap (λ z. thenˢ z λ a q. withˢ (a ++◌) (n q)) h
  pair_decidesˢ nothing y f s n h i k =
      more_decides y (thenˢ s λ a q. withˢ (a ++◌) (n q)) (withˢ ([] ++◌) (n p)) (ap (λ z. thenˢ z λ a q. withˢ (a ++◌) (n q)) h)
      (with_decidesˢ y ([] ++◌) (n p) refl i)
  pair_decidesˢ still y f s n h i k =
      more_decides (rowed y) (thenˢ s λ a q. withˢ (a ++◌) (n q)) (withˢ (h.0 ++◌) (n p)) (ap (λ z. thenˢ z λ a q. withˢ (a ++◌) (n q)) h.1)
      (behind_decidesˢ y h.0 (n p) i)
  pair_decidesˢ marked y f s n h i k =
      judged_decidesˢ (refuses f) (thenˢ s λ a q. withˢ (a ++◌) (n q))
      λ t. ap (λ z. thenˢ z λ a q. withˢ (a ++◌) (n q)) h.0
      ∙ mark_pairˢ (begins (bytes "//") p.left) n
      λ u. subst (λ x. Decidesˢ x (behind 2 p) (n (behind 2 p))) (refuses_end f (first (drop 2 p.left)) t (h.1 u)) (k (behind 2 p))
  pair_decidesˢ maybe y f s n h i k = tt

  value_decidesˢ : {A B : Type 0} (x : Verdict) (s : Summary (List A)) (f : List A → Input → List B)
      → Decidesˢ x p s → Decidesˢ (rowed x) p (thenˢ s λ a q. fits (f a q) q false 0)
  value_decidesˢ no s f h = ap (λ z. thenˢ z λ a q. fits (f a q) q false 0) h
  value_decidesˢ nothing s f h = (f [] p, ap (λ z. thenˢ z λ a q. fits (f a q) q false 0) h)
  value_decidesˢ still s f h = (f h.0 p, ap (λ z. thenˢ z λ a q. fits (f a q) q false 0) h.1)
  value_decidesˢ marked s f h = tt
  value_decidesˢ maybe s f h = tt

  refused_decidesˢ : {A B : Type 0} (x : Verdict) (s : Summary (List A)) (f : List A → Input → Summary (List B))
      → Decidesˢ x p s → Decidesˢ (refused x) p (thenˢ s f)
  refused_decidesˢ no s f h = ap (λ z. thenˢ z f) h
  refused_decidesˢ nothing s f h = tt
  refused_decidesˢ still s f h = tt
  refused_decidesˢ marked s f h = tt
  refused_decidesˢ maybe s f h = tt

  else_decidesˢ : {A : Type 0} (x y : Verdict) (s : Summary (List A)) (f : Unit {0} → Summary (List A))
      → Decidesˢ x p s → Decidesˢ y p (f tt) → Decidesˢ (either x y) p (elseˢ s f)
  else_decidesˢ no y s f h i = more_decides y (elseˢ s f) (f tt) (ap (λ z. elseˢ z f) h) i
  else_decidesˢ nothing y s f h i = ap (λ z. elseˢ z f) h
  else_decidesˢ still y s f h i = (h.0, ap (λ z. elseˢ z f) h.1)
  else_decidesˢ marked y s f h i = tt
  else_decidesˢ maybe y s f h i = tt

  turned_decidesˢ : {A : Type 0} (x : Verdict) (s : Summary (List A)) → Decidesˢ x p s → Decidesˢ (opposite x) p (turnedˢ p s)
  turned_decidesˢ no s h = ap (turnedˢ p) h
  turned_decidesˢ nothing s h = ap (turnedˢ p) h
  turned_decidesˢ still s h = ap (turnedˢ p) h.1
  turned_decidesˢ marked s h = tt
  turned_decidesˢ maybe s h = tt

  rounds_decideˢ : {A : Type 0} (x : Verdict) (m : Scan (List A)) (f : List ℕ) (l : ℕ)
      → Decidesˢ x p (m l p) → Decidesˢ (repeated x) p (roundsˢ m f l p)
  rounds_decideˢ no m [] l h = ap (last_roundˢ p) h
  rounds_decideˢ no m (b ∷ f) l h = ap (λ z. next_roundˢ p z λ q. roundsˢ m f l q) h
  rounds_decideˢ nothing m f l h = tt
  rounds_decideˢ still m f l h = tt
  rounds_decideˢ marked m f l h = tt
  rounds_decideˢ maybe m f l h = tt

  take_decidesˢ : (x : Verdict) (o : Option ℕ) → Takes x p.left o → Decidesˢ x p (takeˢ o p)
  take_decidesˢ no o h = ap (λ z. takeˢ z p) h
  take_decidesˢ nothing o h = ap (λ z. takeˢ z p) h ∙ ap (λ q. fits [] q false 0) (behind_none p)
  take_decidesˢ still o h = ([], ap (λ z. takeˢ z p) h ∙ ap (λ q. fits [] q false 0) (behind_none p))
  take_decidesˢ marked o h = (ap (λ z. takeˢ z p) h.0 ∙ mark_takeˢ (begins (bytes "//") p.left), h.1)
  take_decidesˢ maybe o h = tt

  located_decidesˢ : (k : ℕ) (d : Rows → ℕ) (x y : Verdict) (s : Summary Rows) (f : Input → Summary Rows)
      → Decidesˢ x p s → Decidesˢ y p (f p) → Decidesˢ (both x (rowed y)) p (locatedˢ k d p s f)
  located_decidesˢ k d x y s f h i =
      then_decidesˢ x (rowed y) s _ h λ _. value_decidesˢ y (f p) (λ a r. under k (d a) p.at p.at r.at a) i

  char_at_decidesˢ : (c : ℕ) (x : Verdict) (s : Summary Rows) → Decidesˢ x p s → Decidesˢ (front_char c x (first p.left)) p (char_atˢ c p s)
  char_at_decidesˢ c x s h =
      located_decidesˢ charᵏ (always c) x (unless (is c) no (first p.left)) s (λ q. takeˢ (one_of (is c) q.left) q) h
      (take_decidesˢ (unless (is c) no (first p.left)) (one_of (is c) p.left) (one_takes (is c) p.left))

  picked_decidesˢ : (k t d : ℕ) (x y : Verdict) (o : Option ℕ) (s : Summary Rows)
      → Takes x p.left o → Decidesˢ y p s → Decidesˢ (either (refused x) y) p (pickedˢ k t d o p s)
  picked_decidesˢ k t d no y o s h i = subst (λ z. Decidesˢ y p (pickedˢ k t d z p s)) (sym h) i
  picked_decidesˢ k t d nothing y o s h i = tt
  picked_decidesˢ k t d still y o s h i = tt
  picked_decidesˢ k t d marked y o s h i = tt
  picked_decidesˢ k t d maybe y o s h i = tt

  words_decideˢ : (k t : ℕ) (xs : List (Leaf × ℕ)) → Decidesˢ (front_words xs (first p.left)) p (pick_wordˢ k t xs p)
  words_decideˢ k t [] = refl
  words_decideˢ k t (x ∷ xs) =
      picked_decidesˢ k t x.1 (front_leaf x.0 (first p.left)) (front_words xs (first p.left)) (taken x.0 p.left) (pick_wordˢ k t xs p)
      (leaf_takes x.0 p.left) (words_decideˢ k t xs)

  -- what has no summary of its own is never said to fit
  none_decidesˢ : (x : Verdict) → Decidesˢ {A = Row} (refused x) p (fails false 0)
  none_decidesˢ no = refl
  none_decidesˢ nothing = tt
  none_decidesˢ still = tt
  none_decidesˢ marked = tt
  none_decidesˢ maybe = tt

  nor_decidesˢ : (x y : Verdict) → Decidesˢ {A = Row} (both x (refused y)) p (fails false 0)
  nor_decidesˢ no y = refl
  nor_decidesˢ nothing y = none_decidesˢ y
  nor_decidesˢ still no = refl
  nor_decidesˢ still nothing = tt
  nor_decidesˢ still still = tt
  nor_decidesˢ still marked = tt
  nor_decidesˢ still maybe = tt
  nor_decidesˢ marked y = tt
  nor_decidesˢ maybe y = tt

module _ (τ : Rule → Scan Rows) where
  pub decidesˢ : (m : Parser) (s : Bool) (l : ℕ) (p : Input) → Given s p.left → Decidesˢ (look_at s m p) p (scan τ m l p)
  decidesˢ empty s l p g = refl
  decidesˢ (m ▸ n) s l p g =
      pair_decidesˢ p (look_at s m p) (look_at s n p) (look false n) (scan τ m l p) (λ q. scan τ n l q) (decidesˢ m s l p g) (decidesˢ n s l p g)
      λ q. decidesˢ n false l q tt
  decidesˢ (m or n) s l p g = else_decidesˢ p (look_at s m p) (look_at s n p) (scan τ m l p) _ (decidesˢ m s l p g) (decidesˢ n s l p g)
  decidesˢ (never m) s l p g = turned_decidesˢ p (look_at s m p) (scan τ m l p) (decidesˢ m s l p g)
  decidesˢ (many0 m) s l p g =
      with_decidesˢ p (repeated (look_at s m p)) joined (roundsˢ (scan τ m) p.left l p) refl
      (rounds_decideˢ p (look_at s m p) (scan τ m) p.left l (decidesˢ m s l p g))
  decidesˢ (leaf f) s l p g = take_decidesˢ p (look_at s (leaf f) p) (taken f p.left) (bare_takes s f p.left g)
  decidesˢ (rule y) s l p g = tt
  decidesˢ unterminated s l p g = tt
  decidesˢ (node k d t m) s l p g =
      located_decidesˢ p k d (look_at s t p) (look_at s m p) (scan τ t l p) (λ q. scan τ m l q) (decidesˢ t s l p g) (decidesˢ m s l p g)
  decidesˢ (pick k t xs) s l p g =
      then_decidesˢ p (look_at s t p) (front_words xs (first p.left)) (scan τ t l p) _ (decidesˢ t s l p g) λ _. words_decideˢ p k p.at xs
  decidesˢ (over k d m n) s l p g =
      then_decidesˢ p (look_at s m p) (rowed (look_at s n p)) (scan τ m l p) _ (decidesˢ m s l p g)
      λ a. value_decidesˢ p (look_at s n p) (scan τ n l p) (λ b r. under k d p.at (first_low a) r.at (a ++ b)) (decidesˢ n s l p g)
  decidesˢ (scoped k m n) s l p g = nor_decidesˢ p (look_at s m p) (look_at s n p)
  decidesˢ (import m n f b) s l p g = none_decidesˢ p (look_at s m p)
  decidesˢ (argument t m) s l p g =
      then_decidesˢ p (look_at s t p) (rowed (look_at s m p)) (scan τ t l p) _ (decidesˢ t s l p g)
      λ _. value_decidesˢ p (look_at s m p) (scan τ m l p) (λ a r. placed p.at p.at r.at a) (decidesˢ m s l p g)
  decidesˢ (chain o m) s l p g = refused_decidesˢ p (look_at s m p) (scan τ m l p) _ (decidesˢ m s l p g)
  decidesˢ (bracket t c m) s l p g =
      refused_decidesˢ p (front_char c (look_at s t p) (first p.left)) (char_atˢ c p (scan τ t l p)) _
      (char_at_decidesˢ p c (look_at s t p) (scan τ t l p) (decidesˢ t s l p g))
  decidesˢ (braced t m) s l p g = none_decidesˢ p (front_char 123 (look_at s t p) (first p.left))
  decidesˢ (complain m) s l p g = none_decidesˢ p (look_at s m p)
  decidesˢ (expect c m) s l p g = tt

  pub scan_no : (m : Parser) (l : ℕ) (p : Input) → front_at m p ≡ no → scan τ m l p ≡ fails false 0
  scan_no m l p e = subst (λ x. Decidesˢ x p (scan τ m l p)) e (decidesˢ m false l p tt)

  pub scan_nothing : (m : Parser) (l : ℕ) (p : Input) → front_at m p ≡ nothing → scan τ m l p ≡ fits [] p false 0
  scan_nothing m l p e = subst (λ x. Decidesˢ x p (scan τ m l p)) e (decidesˢ m false l p tt)

  pub scan_bare : (m : Parser) (l : ℕ) (p : Input) → Bare p.left → bare m ≡ no → scan τ m l p ≡ fails false 0
  scan_bare m l p g e = subst (λ x. Decidesˢ x p (scan τ m l p)) (ap (look true m) g.slash ∙ e) (decidesˢ m true l p g)

  pub scan_first : (m n : Parser) (l : ℕ) (p : Input) → scan τ n l p ≡ fails false 0 → scan τ (m or n) l p ≡ scan τ m l p
  scan_first m n l p e = go (scan τ m l p)
    where
      go : (s : Summary Rows) → elseˢ s (λ t. scan τ n l p) ≡ s
      go (fits a q b k) = refl
      go (fails true k) = ap (more true k) e ∙ ap (fails true) (max-zero k)
      go (fails false k) = ap (more false k) e ∙ ap (fails false) (max-zero k)

  pub scan_second : (m n : Parser) (l : ℕ) (p : Input) → scan τ m l p ≡ fails false 0 → scan τ (m or n) l p ≡ scan τ n l p
  scan_second m n l p e = ap (λ s. elseˢ s λ t. scan τ n l p) e ∙ more_none (scan τ n l p)
