-- Parsers that read the same: sequences and alternatives are associative, in any place of a rule.
use mathlib.Core.Path.{◌≡◌, refl, ap, sym, ◌∙◌}
use mathlib.Core.List.{List, ◌++◌, append_assoc}
use Prim.Native.Nat.{ℕ}
use Rattle.reading.specs.Grammar.{Rows, State, Input, Reply, ok, err, Parser, ◌▸◌, ◌or◌, over, under, first_low, parse, then, else, with}
use Rattle.cursor.specs.Text.{here}
use Rattle.cursor.specs.declared.Cursor.{Cursor}
use Rattle.state.specs.declared.State.{State as Counts}
use Rattle.state.specs.Done.{Done}
use Rattle.state.specs.Acts.{Tables, rules, Does}
use Rattle.state.proofs.Laws.{acting_is}

pub record Same (s : List ℕ) (m n : Parser) : Type 0 where
  pub same : (l : ℕ) (p : Input) (w : State) → parse (rules s) m l p w ≡ parse (rules s) n l p w

pub does_same : {g m : Parser} {s : List ℕ} {c : Cursor} {st : Counts} {left : ℕ} {T T₁ : Tables} {r : Done} → Same s g m → Does m s c st left T T₁ r → Does g s c st left T T₁ r
does_same {s = s} {c = c} h a = record { acting = λ l. acting_is (λ w. h.same l (here s c.at.0) w) (a.acting l) }

pub same_then : {s : List ℕ} {m n j : Parser} → Same s m n → Same s n j → Same s m j
same_then a b = record { same = λ l p w. a.same l p w ∙ b.same l p w }

module _ {s : List ℕ} (m : Parser) {n j : Parser} (h : Same s n j) where
  pub or_same : Same s (m or n) (m or j)
  or_same = record { same = λ l p w. go l p (parse (rules s) m l p w) }
    where
      go : (l : ℕ) (p : Input) (o : Reply Rows) → else o (λ v. parse (rules s) n l p v) ≡ else o λ v. parse (rules s) j l p v
      go l p (ok a q v) = refl
      go l p (err v) = h.same l p v

  pub seq_same : Same s (m ▸ n) (m ▸ j)
  seq_same = record { same = λ l p w. go l (parse (rules s) m l p w) }
    where
      go : (l : ℕ) (o : Reply Rows) → then o (λ a q v. with (a ++◌) (parse (rules s) n l q v)) ≡ then o λ a q v. with (a ++◌) (parse (rules s) j l q v)
      go l (ok a q v) = ap (with (a ++◌)) (h.same l q v)
      go l (err v) = refl

  pub over_same : (k d : ℕ) → Same s (over k d m n) (over k d m j)
  over_same k d = record { same = λ l p w. go l p (parse (rules s) m l p w) }
    where
      go : (l : ℕ) (p : Input) (o : Reply Rows)
          → then o (λ a q v. then (parse (rules s) n l q v) λ b r u. ok (under k d p.at (first_low a) r.at (a ++ b)) r u)
          ≡ then o λ a q v. then (parse (rules s) j l q v) λ b r u. ok (under k d p.at (first_low a) r.at (a ++ b)) r u
      go l p (ok a q v) = ap (λ (o : Reply Rows). then o λ b r u. ok (under k d p.at (first_low a) r.at (a ++ b)) r u) (h.same l q v)
      go l p (err v) = refl

pub or_assoc : (s : List ℕ) (m n j : Parser) → Same s (m or (n or j)) ((m or n) or j)
or_assoc s m n j = record { same = λ l p w. go l p (parse (rules s) m l p w) }
  where
    go : (l : ℕ) (p : Input) (o : Reply Rows)
        → else o (λ v. else (parse (rules s) n l p v) λ u. parse (rules s) j l p u) ≡ else (else o λ v. parse (rules s) n l p v) λ u. parse (rules s) j l p u
    go l p (ok a q v) = refl
    go l p (err v) = refl

pub seq_assoc : (s : List ℕ) (m n j : Parser) → Same s (m ▸ (n ▸ j)) ((m ▸ n) ▸ j)
seq_assoc s m n j = record { same = λ l p w. outer l (parse (rules s) m l p w) }
  where
    inner : (v u : Rows) (o : Reply Rows) → with (v ++◌) (with (u ++◌) o) ≡ with ((v ++ u) ++◌) o
    inner v u (ok z q w) = ap (λ (x : Rows). ok x q w) (sym (append_assoc v u z))
    inner v u (err w) = refl

    middle : (l : ℕ) (v : Rows) (o : Reply Rows)
        → with (v ++◌) (then o λ a q u. with (a ++◌) (parse (rules s) j l q u)) ≡ then (with (v ++◌) o) λ a q u. with (a ++◌) (parse (rules s) j l q u)
    middle l v (ok u q w) = inner v u (parse (rules s) j l q w)
    middle l v (err w) = refl

    outer : (l : ℕ) (o : Reply Rows)
        → then o (λ v q w. with (v ++◌) (then (parse (rules s) n l q w) λ a q u. with (a ++◌) (parse (rules s) j l q u)))
        ≡ then (then o λ v q w. with (v ++◌) (parse (rules s) n l q w)) λ a q u. with (a ++◌) (parse (rules s) j l q u)
    outer l (ok v q w) = middle l v (parse (rules s) n l q w)
    outer l (err w) = refl
