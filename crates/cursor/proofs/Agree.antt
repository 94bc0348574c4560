-- How agreements are put together: one step for each way in which a reader goes on. The summaries are any: nothing here knows a parser.
use mathlib.Core.Logic.{⊎_elim}
use mathlib.Core.Path.{◌≡◌, refl, ap, ap₂, sym, subst, ◌∙◌}
use mathlib.Core.Bool.{Bool, true, false, ◌||◌, or_assoc}
use mathlib.Core.List.{List, [], ◌∷◌, ◌++◌, append-nil, append_assoc}
use Prim.Native.Nat.{ℕ, suc, ◌+◌, ◌≤◌, ◌<◌, max}
use native.Mathlib.Omega.{arith}
use borrow.Author.Tests.{lt-ltb, le-ltb, ltb-true, ltb-false}
use lib.Dec.{ltb}
use lib.ListN.{length, length-append}
use Rattle.reading.specs.Grammar.{Row, Rows, Input, placed}
use Rattle.reading.specs.Summary.{Summary, fits, fails, more, thenˢ, elseˢ, withˢ}
use Rattle.reading.specs.Table.{row_width}
use Rattle.table.specs.Words.{HoldsRows, pushed, replaced, record_of}
use Rattle.cursor.specs.Text.{here, cursor}
use Rattle.cursor.specs.Agree.{deep_or, answer_of, rows_of, peak_of, Agrees}
use Rattle.cursor.specs.declared.Cursor.{Cursor}
use Rattle.cursor.specs.Read.{Read}
use Rattle.table.proofs.Holds.{holds_push, holds_prefix, holds_place}
use Rattle.cursor.specs.declared.Stop.TheVariants.{Miss, Deep}
use Rattle.std.specs.Prelude.{Ok, Err, IsOk, IsErr, is_ok, is_err, ◌⊎◌}

-- Answers ------------------------------------------------------------------

-- what a cursor and a miss say of the summary
pub record Found (o : Summary Rows) (lim : ℕ) (met : Bool) (base : ℕ) (d : Cursor) : Type 0 where
  pub v : Rows
  pub q : Input
  pub b : Bool
  pub k : ℕ
  pub is : o ≡ fits v q b k
  pub low : k ≤ lim
  pub at : d.at.0 ≡ q.at
  pub count : d.count.0 ≡ base + length v
  pub noted : d.met ≡ met || b

pub record Lost (o : Summary Rows) (lim : ℕ) (met m : Bool) : Type 0 where
  pub b : Bool
  pub k : ℕ
  pub is : o ≡ fails b k
  pub low : k ≤ lim
  pub noted : m ≡ met || b

got_is : (d e : Cursor) → ◌≡◌ {A = Read} (Ok d) (Ok e) → d ≡ e
got_is d e h = cc

miss_is : (m k : Bool) → ◌≡◌ {A = Read} (Err (Miss m)) (Err (Miss k)) → m ≡ k
miss_is m k h = cc

pub got_deep : (d : Cursor) → ◌≡◌ {A = Read} (Ok d) (Err Deep) → ⊥
got_deep d h = let z : ◌≡◌ {A = ℕ} 0 1 = cc in omega arith

pub got_miss : (d : Cursor) (m : Bool) → ◌≡◌ {A = Read} (Ok d) (Err (Miss m)) → ⊥
got_miss d m h = let z : ◌≡◌ {A = ℕ} 0 1 = cc in omega arith

pub miss_deep : (m : Bool) → ◌≡◌ {A = Read} (Err (Miss m)) (Err Deep) → ⊥
miss_deep m h = let z : ◌≡◌ {A = ℕ} 0 1 = cc in omega arith

-- an answer that is known to be none of a kind
pub not_got : {r : Read} {d : Cursor} → r ≡ Ok d → IsErr r → ⊥
not_got q h = let z : ◌≡◌ {A = Bool} false true = sym (ap is_err q) ∙ h in cc

pub not_miss : (r : Read) → IsOk r ⊎ (r ≡ Err Deep) → (m : Bool) → r ≡ Err (Miss m) → ⊥
not_miss r h m e =
    ⊎_elim (λ (x : IsOk r). let z : ◌≡◌ {A = Bool} true false = sym x ∙ ap is_ok e in let y : ◌≡◌ {A = ℕ} 0 1 = cc in omega arith)
    (λ (x : r ≡ Err Deep). miss_deep m (sym e ∙ x)) h

module _ (lim : ℕ) (met : Bool) (base : ℕ) where
  -- the answers within the limit
  abbrev got_at : Rows → Input → Bool → Read
  got_at v q b = Ok (cursor q.at (base + length v) (met || b))

  pub found : (o : Summary Rows) (d : Cursor) → Ok d ≡ answer_of lim met base o → Found o lim met base d
  unfolding answer_of
  found (fits v q b k) d h = go (ltb lim k) refl h
    where
      go : (x : Bool) → ltb lim k ≡ x → Ok d ≡ deep_or x (got_at v q b) → Found (fits v q b k) lim met base d
      go true e z = absurd (got_deep d z)
      go false e z =
          let g = got_is d _ z in
          record {
            v = v;
            q = q;
            b = b;
            k = k;
            is = refl;
            low = ltb-false lim k e;
            at = ap (λ (c : Cursor). c.at.0) g;
            count = ap (λ (c : Cursor). c.count.0) g;
            noted = ap (λ (c : Cursor). c.met) g;
          }
  found (fails b k) d h = absurd (go (ltb lim k) h)
    where
      go : (x : Bool) → Ok d ≡ deep_or x (Err (Miss (met || b))) → ⊥
      go true z = got_deep d z
      go false z = got_miss d _ z

  pub lost : (o : Summary Rows) (m : Bool) → Err (Miss m) ≡ answer_of lim met base o → Lost o lim met m
  unfolding answer_of
  lost (fits v q b k) m h = absurd (go (ltb lim k) h)
    where
      go : (x : Bool) → Err (Miss m) ≡ deep_or x (got_at v q b) → ⊥
      go true z = miss_deep m z
      go false z = got_miss _ m (sym z)
  lost (fails b k) m h = go (ltb lim k) refl h
    where
      go : (x : Bool) → ltb lim k ≡ x → Err (Miss m) ≡ deep_or x (Err (Miss (met || b))) → Lost (fails b k) lim met m
      go true e z = absurd (miss_deep m z)
      go false e z = record { b = b; k = k; is = refl; low = ltb-false lim k e; noted = miss_is m _ z }

  pub deep : (o : Summary Rows) → Err Deep ≡ answer_of lim met base o → lim < peak_of o
  unfolding answer_of peak_of
  deep (fits v q b k) h = go (ltb lim k) refl h
    where
      go : (x : Bool) → ltb lim k ≡ x → Err Deep ≡ deep_or x (got_at v q b) → lim < k
      go true e z = ltb-true lim k e
      go false e z = absurd (got_deep _ (sym z))
  deep (fails b k) h = go (ltb lim k) refl h
    where
      go : (x : Bool) → ltb lim k ≡ x → Err Deep ≡ deep_or x (Err (Miss (met || b))) → lim < k
      go true e z = ltb-true lim k e
      go false e z = absurd (miss_deep _ (sym z))

  -- too deep
  pub agrees_deep : (o : Summary Rows) {acc : Rows} {t t' : List ℕ} → lim < peak_of o → Agrees o lim met base acc t t' (Err Deep)
  unfolding answer_of peak_of
  agrees_deep o h = record { answer = go o h; table = λ k. absurd (let z : ⊥ = omega arith in z) }
    where
      go : (o : Summary Rows) → lim < peak_of o → Err Deep ≡ answer_of lim met base o
      go (fits v q b k) h = sym (ap (λ (x : Bool). deep_or x (got_at v q b)) (lt-ltb lim k h))
      go (fails b k) h = sym (ap (λ (x : Bool). deep_or x (Err (Miss (met || b)))) (lt-ltb lim k h))

-- Steps --------------------------------------------------------------------

-- the summary is another one that is equal
pub agrees_is : {o o' : Summary Rows} {lim : ℕ} {met : Bool} {base : ℕ} {acc : Rows} {t t' : List ℕ} {r : Read}
    → o ≡ o' → Agrees o' lim met base acc t t' r → Agrees o lim met base acc t t' r
agrees_is {lim = lim} {met = met} {base = base} {acc = acc} {t = t} {t' = t'} {r = r} e a = subst (λ x. Agrees x lim met base acc t t' r) (sym e) a

same_side : (lim p k : ℕ) → p ≤ lim → ltb lim (max p k) ≡ ltb lim k
same_side lim p k h = go (ltb lim k) refl
  where
    go : (x : Bool) → ltb lim k ≡ x → ltb lim (max p k) ≡ x
    go true e = lt-ltb lim (max p k) (omega (arith, ltb-true lim k e))
    go false e = le-ltb lim (max p k) (omega (arith, ltb-false lim k e))

-- something was noted, within the limit
pub agrees_more : (o : Summary Rows) {lim : ℕ} {met : Bool} {base : ℕ} {acc : Rows} {t t' : List ℕ} {r : Read} (m : Bool) (p : ℕ)
    → p ≤ lim → Agrees o lim (met || m) base acc t t' r → Agrees (more m p o) lim met base acc t t' r
unfolding answer_of peak_of rows_of
agrees_more (fits v q b k) {lim} {met} {base} m p h a =
    record {
      answer = a.answer
          ∙ ap₂ (λ (x y : Bool). deep_or x (Ok (cursor q.at (base + length v) y))) (sym (same_side lim p k h)) (or_assoc met m b);
      table = λ z. a.table (omega arith);
    }
agrees_more (fails b k) {lim} {met} {base} m p h a =
    record {
      answer = a.answer ∙ ap₂ (λ (x y : Bool). deep_or x (Err (Miss y))) (sym (same_side lim p k h)) (or_assoc met m b);
      table = λ z. a.table (omega arith);
    }

-- the rows are read: those collected are the value
pub agrees_ok : (v : Rows) (q : Input) (lim : ℕ) (met : Bool) (base : ℕ) (t : List ℕ) (b : Bool) (k n : ℕ) (m : Bool)
    → k ≤ lim → n ≡ base + length v → m ≡ met || b → Agrees (fits v q b k) lim met base v t t (Ok (cursor q.at n m))
unfolding answer_of rows_of
agrees_ok v q lim met base t b k n m h e f =
    record {
      answer = ap₂ {C = Read} (λ (i : ℕ) (x : Bool). Ok (cursor q.at i x)) e f
          ∙ sym (ap (λ (x : Bool). deep_or x (Ok (cursor q.at (base + length v) (met || b)))) (le-ltb lim k h));
      table = λ z pre y g. g;
    }

-- it does not fit: the rows collected are given up
pub agrees_err : (lim : ℕ) (met : Bool) (base : ℕ) (acc : Rows) (t : List ℕ) (b : Bool) (k : ℕ) (m : Bool)
    → k ≤ lim → m ≡ met || b → Agrees (fails b k) lim met base acc t t (Err (Miss m))
unfolding answer_of rows_of
agrees_err lim met base acc t b k m h f =
    record {
      answer = ap (λ (x : Bool). Err (Miss x)) f ∙ sym (ap (λ (x : Bool). deep_or x (Err (Miss (met || b)))) (le-ltb lim k h));
      table = λ z pre y g. rw append-nil (holds_prefix t pre acc g);
    }

-- a row is pushed
pub agrees_push : {o : Summary Rows} {lim : ℕ} {met : Bool} {base : ℕ} (acc : Rows) (t : List ℕ) {t' : List ℕ} {r : Read} (n : ℕ) (x : Row)
    → n ≡ base + length acc → Agrees o lim met base (acc ++ (x ∷ [])) (pushed row_width t n (record_of x)) t' r → Agrees o lim met base acc t t' r
agrees_push acc t n x e a =
    record {
      answer = a.answer;
      table = λ k pre z g. a.table k pre z
          (rw (← (append_assoc pre acc (x ∷ []))) (holds_push t (pre ++ acc) n x (omega (arith, length-append pre acc)) g));
    }

-- the places of the last row are written anew
pub agrees_place : {o : Summary Rows} {lim : ℕ} {met : Bool} {base : ℕ} (acc : Rows) (t : List ℕ) {t' : List ℕ} {r : Read} (n a b z : ℕ)
    → 1 ≤ length acc → suc n ≡ base + length acc → Agrees o lim met base (placed a b z acc) (replaced t n a b z) t' r
    → Agrees o lim met base acc t t' r
agrees_place acc t n a b z h e x =
    record {
      answer = x.answer;
      table = λ k pre w g. x.table k pre w (holds_place t pre acc n a b z h (omega (arith, length-append pre acc)) g);
    }

-- rows that were there stand in front of what is read
pub agrees_with : (o : Summary Rows) {lim : ℕ} {met : Bool} {base : ℕ} (acc : Rows) {n : ℕ} {t t' : List ℕ} {r : Read}
    → n ≡ base + length acc → Agrees o lim met n [] t t' r → Agrees (withˢ (acc ++◌) o) lim met base acc t t' r
unfolding answer_of rows_of peak_of
agrees_with (fits v q b k) {lim} {met} {base} acc {n} {t} {t'} e a =
    record {
      answer = a.answer
          ∙ ap (λ (i : ℕ). deep_or (ltb lim k) (Ok (cursor q.at i (met || b))))
          (let z : n + length v ≡ base + length (acc ++ v) = omega (arith, length-append acc v) in z);
      table = λ h pre z g.
          let y : HoldsRows t' ((pre ++ acc) ++ v) = a.table h (pre ++ acc) (omega (arith, length-append pre acc)) (rw append-nil g) in
          rw append_assoc at y;
    }
agrees_with (fails b k) acc {n} {t} {t'} e a =
    record {
      answer = a.answer;
      table = λ h pre z g.
          let y : HoldsRows t' ((pre ++ acc) ++ []) = a.table h (pre ++ acc) (omega (arith, length-append pre acc)) (rw append-nil g) in
          rw append-nil (holds_prefix t' pre acc (rw append-nil at y));
    }

-- Levels -------------------------------------------------------------------

-- where a part went, the whole went
pub peak_more : (b : Bool) (k : ℕ) (o : Summary Rows) → k ≤ peak_of (more b k o)
unfolding peak_of
peak_more b k (fits v q c j) = omega arith
peak_more b k (fails c j) = omega arith

pub peak_then : (o : Summary Rows) (f : Rows → Input → Summary Rows) → peak_of o ≤ peak_of (thenˢ o f)
unfolding peak_of
peak_then (fits v q b k) f = peak_more b k (f v q)
peak_then (fails b k) f = omega arith

peak_else : (o : Summary Rows) (f : Unit {0} → Summary Rows) → peak_of o ≤ peak_of (elseˢ o f)
unfolding peak_of
peak_else (fits v q b k) f = omega arith
peak_else (fails b k) f = peak_more b k (f tt)

-- Callees ------------------------------------------------------------------

-- the place of a summary is the text's
abbrev pub Lies : List ℕ → Summary Rows → Type 0
Lies s (fits v q b k) = q ≡ here s q.at
Lies s (fails b k) = Unit {0}

pub found_here : (s : List ℕ) {o : Summary Rows} {lim : ℕ} {met : Bool} {n : ℕ} {d : Cursor} → Lies s o → (x : Found o lim met n d)
    → o ≡ fits x.v (here s d.at.0) x.b x.k
found_here s lie x = x.is ∙ ap (λ q. fits x.v q x.b x.k) (subst (Lies s) x.is lie ∙ ap (here s) (sym x.at))

-- a callee read something, and the rest goes on from there
pub agrees_found : (s : List ℕ) {o : Summary Rows} {lim : ℕ} {met : Bool} {base : ℕ} (acc : Rows) {n : ℕ} {t t₁ t' : List ℕ} {r₁ r : Read} {d : Cursor}
    (f : Rows → Input → Summary Rows) → n ≡ base + length acc → Lies s o → Agrees o lim met n [] t t₁ r₁ → (x : Found o lim met n d)
    → Agrees (f x.v (here s d.at.0)) lim d.met base (acc ++ x.v) t₁ t' r → Agrees (thenˢ o f) lim met base acc t t' r
unfolding rows_of peak_of
agrees_found s {o} {lim} {met} {base} acc {n} {t} {t₁} {t'} {r₁} {r} {d} f e lie a x g =
    let h : Agrees (f x.v (here s d.at.0)) lim (met || x.b) base (acc ++ x.v) t₁ t' r =
    subst (λ (m : Bool). Agrees (f x.v (here s d.at.0)) lim m base (acc ++ x.v) t₁ t' r) x.noted g in
    let kept : (pre : Rows) → length pre ≡ n → HoldsRows t (pre ++ []) → HoldsRows t₁ (pre ++ x.v) =
    subst (λ (o : Summary Rows). peak_of o ≤ lim → (pre : Rows) → length pre ≡ n → HoldsRows t (pre ++ []) → HoldsRows t₁ (pre ++ rows_of o))
    x.is a.table x.low in
    agrees_is (ap (λ o. thenˢ o f) (found_here s lie x))
    (agrees_more (f x.v (here s d.at.0)) x.b x.k x.low
    (record {
      answer = h.answer;
      table = λ p pre w i.
          let j : HoldsRows t₁ ((pre ++ acc) ++ x.v) = kept (pre ++ acc) (omega (arith, length-append pre acc)) (rw append-nil i) in
          h.table p pre w (rw append_assoc at j);
    }))

pub agrees_got : (s : List ℕ) {o : Summary Rows} {lim : ℕ} {met : Bool} {base : ℕ} (acc : Rows) {n : ℕ} {t t₁ t' : List ℕ} {r₁ r : Read} (d : Cursor)
    (f : Rows → Input → Summary Rows)
    → n ≡ base + length acc → Lies s o → Agrees o lim met n [] t t₁ r₁ → r₁ ≡ Ok d
    → ((v : Rows) (b : Bool) (k : ℕ) → o ≡ fits v (here s d.at.0) b k → d.count.0 ≡ base + length (acc ++ v)
    → Agrees (f v (here s d.at.0)) lim d.met base (acc ++ v) t₁ t' r)
    → Agrees (thenˢ o f) lim met base acc t t' r
agrees_got s {o} {lim} {met} acc {n} d f e lie a u g =
    let x = found lim met n o d (sym u ∙ a.answer) in
    agrees_found s acc f e lie a x (g x.v x.b x.k (found_here s lie x) (omega (arith, x.count, length-append acc x.v)))

-- a callee that read nothing leaves the rows that were there
pub kept : {o : Summary Rows} {lim : ℕ} {met : Bool} {base : ℕ} (acc : Rows) {n : ℕ} {t t₁ : List ℕ} {r₁ : Read} (m : Bool)
    → n ≡ base + length acc → Agrees o lim met n [] t t₁ r₁ → r₁ ≡ Err (Miss m)
    → (pre : Rows) → length pre ≡ base → HoldsRows t (pre ++ acc) → HoldsRows t₁ (pre ++ acc)
unfolding rows_of peak_of
kept {o} {lim} {met} {base} acc {n} {t} {t₁} m e a q pre z x = go (lost lim met n o m (sym q ∙ a.answer))
  where
    go : Lost o lim met m → HoldsRows t₁ (pre ++ acc)
    go g =
        let keep : (pre : Rows) → length pre ≡ n → HoldsRows t (pre ++ []) → HoldsRows t₁ (pre ++ []) =
        subst (λ (o : Summary Rows). peak_of o ≤ lim → (pre : Rows) → length pre ≡ n → HoldsRows t (pre ++ []) → HoldsRows t₁ (pre ++ rows_of o))
        g.is a.table g.low in
        let y : HoldsRows t₁ ((pre ++ acc) ++ []) = keep (pre ++ acc) (omega (arith, length-append pre acc)) (rw append-nil x) in
        rw append-nil at y

-- so that what follows may be said of the table before it
pub agrees_kept : {o : Summary Rows} {lim : ℕ} {met : Bool} {base : ℕ} (acc : Rows) {t t₁ t' : List ℕ} {r : Read}
    → ((pre : Rows) → length pre ≡ base → HoldsRows t (pre ++ acc) → HoldsRows t₁ (pre ++ acc))
    → Agrees o lim met base acc t₁ t' r → Agrees o lim met base acc t t' r
agrees_kept acc keep a = record { answer = a.answer; table = λ u pre z x. a.table u pre z (keep pre z x) }

-- a callee that read nothing, or went too deep, is the end of the reading
pub agrees_out : {o : Summary Rows} {lim : ℕ} {met : Bool} {base : ℕ} (acc : Rows) {n : ℕ} {t t₁ : List ℕ} {r₁ : Read} (f : Rows → Input → Summary Rows)
    → n ≡ base + length acc → Agrees o lim met n [] t t₁ r₁ → IsErr r₁ → Agrees (thenˢ o f) lim met base acc t t₁ r₁
agrees_out {o} {lim} {met} {base} acc {n} {t} {t₁} {r₁} f e a h = go r₁ refl
  where
    missed : (m : Bool) → r₁ ≡ Err (Miss m) → Lost o lim met m → Agrees (thenˢ o f) lim met base acc t t₁ (Err (Miss m))
    missed m q g =
        agrees_is (ap (λ o. thenˢ o f) g.is)
        (agrees_kept acc (kept acc m e a q) (agrees_err lim met base acc t₁ g.b g.k m g.low g.noted))

    go : (r : Read) → r₁ ≡ r → Agrees (thenˢ o f) lim met base acc t t₁ r
    go (Ok d) q = absurd (not_got q h)
    go (Err (Miss m)) q = missed m q (lost lim met n o m (sym q ∙ a.answer))
    go (Err Deep) q = agrees_deep lim met base (thenˢ o f) (omega (arith, deep lim met n o (sym q ∙ a.answer), peak_then o f))

-- the first attempt read nothing, and the second goes on with the table that it left
pub agrees_or : {o : Summary Rows} (f : Unit {0} → Summary Rows) {lim : ℕ} {met : Bool} {base : ℕ} (acc : Rows) {n : ℕ} {t t₁ t' : List ℕ} {r₁ r : Read}
    (m : Bool) → n ≡ base + length acc → Agrees o lim met n [] t t₁ r₁ → r₁ ≡ Err (Miss m) → Agrees (f tt) lim m base acc t₁ t' r
    → Agrees (elseˢ o f) lim met base acc t t' r
agrees_or {o} f {lim} {met} {base} acc {n} {t} {t₁} {t'} {r₁} {r} m e a q b = go (lost lim met n o m (sym q ∙ a.answer))
  where
    go : Lost o lim met m → Agrees (elseˢ o f) lim met base acc t t' r
    go g =
        agrees_is (ap (λ o. elseˢ o f) g.is)
        (agrees_more (f tt) g.b g.k g.low
        (agrees_kept acc (kept acc m e a q) (subst (λ (x : Bool). Agrees (f tt) lim x base acc t₁ t' r) g.noted b)))

-- the first attempt read something, or went too deep
pub agrees_first : {o : Summary Rows} (f : Unit {0} → Summary Rows) {lim : ℕ} {met : Bool} {base : ℕ} {acc : Rows} {t t' : List ℕ} {r : Read}
    → Agrees o lim met base acc t t' r → ((m : Bool) → r ≡ Err (Miss m) → ⊥) → Agrees (elseˢ o f) lim met base acc t t' r
agrees_first {o} f {lim} {met} {base} {acc} {t} {t'} {r} a h = go r refl
  where
    go : (x : Read) → r ≡ x → Agrees (elseˢ o f) lim met base acc t t' r
    go (Ok d) q = let g = found lim met base o d (sym q ∙ a.answer) in agrees_is (ap (λ o. elseˢ o f) g.is ∙ sym g.is) a
    go (Err (Miss m)) q = absurd (h m q)
    go (Err Deep) q =
        subst (λ (x : Read). Agrees (elseˢ o f) lim met base acc t t' x) (sym q)
        (agrees_deep lim met base (elseˢ o f) (omega (arith, deep lim met base o (sym q ∙ a.answer), peak_else o f)))
