-- What the top rows are, with no turns counted: the first one's subtree starts at the table's first row, each next one where the one before it ends, and the last one ends the rows.
use mathlib.Core.Path.{◌≡◌, refl, ap, sym, subst, ◌∙◌}
use mathlib.Core.Bool.{Bool, true, false, ◌||◌, cond}
use mathlib.Core.List.{List, [], ◌∷◌, ◌++◌, append-nil}
use Prim.Native.Nat.{ℕ, zero, suc, ◌-◌, ◌≤◌}
use native.Mathlib.Omega.{arith}
use borrow.Author.Tests.{eqb-true}
use lib.Dec.{ltb, eqb}
use Rattle.reading.specs.Table.{Answer, answered, refused, room, row_width}
use Rattle.reading.specs.Walk.{Subtree, walk, size_at}
use Rattle.rows.specs.Tops.{more_tops, tops_from, top_rows, Covers, none, subtree}
use Rattle.rows.proofs.Turns.{Ahead, ahead_all, ahead_more, ahead_none, walk_less}

-- the root is the last of the rows
root_of : (t : List ℕ) (n : ℕ) (x : Subtree) → walk t n ≡ answered x → x.root ≡ n - 1
unfolding walk
root_of t n x e = go (eqb n 0 || ltb (room row_width t) n) (eqb (size_at t n) 0 || ltb n (size_at t n)) e
  where
    go : (a b : Bool) → cond a (refused 13 n) (cond b (refused 13 n) (answered (record { root = n - 1; before = n - size_at t n }))) ≡ answered x → x.root ≡ n - 1
    go true b e = absurd (let z : ◌≡◌ {A = ℕ} 0 1 = cc in omega arith)
    go false true e = absurd (let z : ◌≡◌ {A = ℕ} 0 1 = cc in omega arith)
    go false false e =
        let u : record { root = n - 1; before = n - size_at t n } ≡ x = cc in
        sym (ap (λ (y : Subtree). y.root) u)

one_more : (t : List ℕ) (n m : ℕ) (rs : List ℕ) → Covers t n rs m → (x : Subtree) → walk t n ≡ answered x → Covers t x.before (x.root ∷ rs) m
one_more t n m rs c x e =
    let u : n ≡ suc x.root = omega (arith, root_of t n x e, walk_less t n x e) in
    subtree (subst (λ (k : ℕ). walk t k ≡ answered x) u e) (subst (λ (k : ℕ). Covers t k rs m) u c)

at_start : (t : List ℕ) (n m : ℕ) (rs xs : List ℕ) → n ≡ 0 → rs ≡ xs → Covers t n rs m → Covers t 0 xs m
at_start t n m rs xs e u c = subst (λ (k : ℕ). Covers t k xs m) e (subst (λ (ys : List ℕ). Covers t n ys m) u c)

covers_from : (turns : ℕ) (t : List ℕ) (n m : ℕ) (rs xs : List ℕ) → n ≤ turns → Covers t n rs m → tops_from turns t n rs ≡ answered xs → Covers t 0 xs m
covers_from zero t n m rs xs l c e = at_start t n m rs xs (omega arith) (let u : rs ≡ xs = cc in u) c
covers_from (suc turns) t n m rs xs l c e = go (eqb n 0) refl (walk t n) refl (λ x k d h. covers_from turns t x.before m (x.root ∷ rs) xs k d h) e
  where
    go : (b : Bool) → eqb n 0 ≡ b → (y : Answer Subtree) → walk t n ≡ y
        → ((x : Subtree) → x.before ≤ turns → Covers t x.before (x.root ∷ rs) m → tops_from turns t x.before (x.root ∷ rs) ≡ answered xs → Covers t 0 xs m)
        → cond b (answered rs) (more_tops y rs (tops_from turns t)) ≡ answered xs → Covers t 0 xs m
    go true q y w f e = at_start t n m rs xs (eqb-true n 0 q) (let u : rs ≡ xs = cc in u) c
    go false q (answered x) w f e = f x (omega (arith, walk_less t n x w)) (one_more t n m rs c x w) e
    go false q (refused k g) w f e = absurd (let z : ◌≡◌ {A = ℕ} 0 1 = cc in omega arith)

pub tops_cover : (t : List ℕ) (n : ℕ) (rs : List ℕ) → top_rows t n ≡ answered rs → Covers t 0 rs n
unfolding top_rows
tops_cover t n rs e = covers_from n t n n [] rs (omega arith) none e

ahead_over : (t : List ℕ) (n m b : ℕ) (rs acc : List ℕ) → Covers t b rs m → Ahead t n m acc → Ahead t n b (rs ++ acc)
ahead_over t n m b rs acc none a = a
ahead_over t n m b rs acc (subtree e c) a = ahead_more t n _ _ (ahead_over t n m _ _ acc c a) (omega arith) _ e

pub cover_tops : (t : List ℕ) (n : ℕ) (rs : List ℕ) → Covers t 0 rs n → top_rows t n ≡ answered rs
cover_tops t n rs c = ahead_none t n 0 (rs ++ []) (ahead_over t n n 0 rs [] c (ahead_all t n)) refl ∙ ap answered (append-nil rs)
