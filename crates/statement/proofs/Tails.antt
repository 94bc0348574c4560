-- The row around a statement, and what stands behind a head: one law for every head.
use mathlib.Core.Path.{◌≡◌, refl, sym, subst}
use mathlib.Core.Bool.{Bool, true, false}
use mathlib.Core.List.{List}
use Prim.Native.Nat.{ℕ, ◌+◌, ◌-◌, ◌*◌, ◌≤◌}
use native.Mathlib.Omega.{arith}
use lib.ListN.{length}
use Rattle.reading.specs.Grammar.{Rows, State, Input, Reply, ok, err, Parser, ◌▸◌, node, first_low, parse}
use Rattle.reading.specs.Rules.{multiline_trivia, all_rules}
use Rattle.reading.proofs.Trees.{Each}
use Rattle.reading.proofs.Cost.{cost}
use Rattle.reading.proofs.Meters.{dues, error_prices, scope_prices, request_prices}
use Rattle.cursor.specs.Text.{here, Skips}
use Rattle.cursor.specs.declared.Cursor.{Cursor}
use Rattle.cursor.specs.declared.Skip.{Skip}
use Rattle.state.specs.declared.State.{State as Counts}
use Rattle.state.specs.Done.{Done}
use Rattle.state.specs.Acts.{counts, Tables, tables, rules, Acting, Does, Fit}
use Rattle.state.proofs.Laws.{seq_out, seq_got, seq_assoc}
use Rattle.state.proofs.Rows.{Starts, line_quiet, starts_node, over_out, over_got, scoped_out, scoped_got}
use Rattle.state.proofs.Bounds.{acted}
use Rattle.statement.specs.declared.Body.{Body}
use Rattle.statement.specs.Shapes.{closing, Closed, body_of, Begins, Headed, Ends}
use Rattle.head.specs.Heads.{word_of, directive_of, directive_expression}
use Rattle.statement.proofs.Tests.{directive_sober}
use Rattle.std.specs.Prelude.{Ok, IsErr}

-- Where the first tree begins ----------------------------------------------

pub starts_from : {m : Parser} {s : List ℕ} {i low : ℕ} → Begins m s i low → {l lim : ℕ} {st : Counts} → Starts m s l lim i st low
starts_from {m} {s} {i} {low} b {l} = record { first = λ w p k. go (parse (rules s) m l (here s i) w) λ v q u e. b.first l w v q u e }
  where
    go : (o : Reply Rows) → ((v : Rows) (q : Input) (u : State) → o ≡ ok v q u → first_low v ≡ low) → Each (λ v. first_low v ≡ low) o
    go (ok v q u) h = h v q u refl
    go (err u) h = tt

pub begins_from : {m : Parser} {s : List ℕ} {i low : ℕ} → ((l lim : ℕ) (st : Counts) → Starts m s l lim i st low) → Begins m s i low
begins_from {m} {s} {i} {low} a =
    record { first = λ l w v q u e. subst (Each (λ v. first_low v ≡ low)) e ((a l w.peak (counts w)).first w refl (omega arith)) }

pub begins_node : (k : ℕ) (d : Rows → ℕ) (m : Parser) {s : List ℕ} {i : ℕ} {k₁ : Skip} → Skips multiline_trivia s i false k₁
    → Begins (node k d multiline_trivia m) s i k₁.at.0
begins_node k d m skip = begins_from λ l lim st. starts_node k d m line_quiet skip

-- The row ------------------------------------------------------------------

pub closing_out : (scope : Bool) (kind : ℕ) {m n : Parser} {s : List ℕ} {l lim i base : ℕ} {st : Counts} {T T₁ : Tables} {r : Done}
    → Acting (m ▸ n) s l lim i base st T T₁ r → IsErr r → Acting (closing scope kind m n) s l lim i base st T T₁ r
closing_out true kind a h = scoped_out a kind h
closing_out false kind a h = over_out a kind 0 h

pub closing_got : (scope : Bool) {kind : ℕ} {m n : Parser} {s : List ℕ} {l lim : ℕ} {c : Cursor} {k : Skip} {st : Counts} {T T₁ : Tables} {r₁ : Done}
    → Acting (m ▸ n) s l lim c.at.0 c.count.0 st T T₁ r₁ → Starts m s l lim c.at.0 st k.at.0
    → (d : Cursor) (x : Counts) → r₁ ≡ Ok (d, x) → c.count.0 ≤ d.count.0 → {t' : List ℕ} {r : Done} → Closed scope kind c k d x T₁.rows t' r
    → Acting (closing scope kind m n) s l lim c.at.0 c.count.0 st T (tables t' T₁.errors T₁.requests) r
closing_got true {kind} {m} {n} {s} {l} {lim} {c} {k} {st} {T} {T₁} a h d x q grown {t'} e =
    subst (Acting (closing true kind m n) s l lim c.at.0 c.count.0 st T (tables t' T₁.errors T₁.requests)) (sym e.answer)
    (scoped_got a h kind d x q (d.count.0 + 1 - c.count.0) (omega arith) e.table)
closing_got false {kind} {m} {n} {s} {l} {lim} {c} {k} {st} {T} {T₁} a h d x q grown {t'} e =
    subst (Acting (closing false kind m n) s l lim c.at.0 c.count.0 st T (tables t' T₁.errors T₁.requests)) (sym e.answer)
    (over_got a h kind d x q (d.count.0 + 1 - c.count.0) (omega arith) 0 e.table)

-- Behind a head ------------------------------------------------------------

module _ {b : Body} {scope : Bool} {kind : ℕ} {s : List ℕ} {c : Cursor} {k : Skip} {h : Done} {left : ℕ} {T : Tables} where
  pub ends_out : IsErr h → Ends b scope kind s c k h left T T h
  ends_out o =
      record { does = λ m n st T₀ first a. record { acting = λ l. closing_out scope kind (seq_assoc (seq_out (a.acting l) (body_of b) o)) o } }

  module _ {d : Cursor} {x : Counts} (q : h ≡ Ok (d, x)) {T₁ : Tables} {r₁ : Done} (g : Does (body_of b) s d x left T T₁ r₁) where
    pub ends_body : IsErr r₁ → Ends b scope kind s c k h left T T₁ r₁
    ends_body o =
        record {
          does = λ m n st T₀ first a. record {
            acting = λ l. closing_out scope kind (seq_assoc (seq_got (a.acting l) (body_of b) d x q (g.acting l))) o;
          };
        }

    pub ends_got : {e : Cursor} {y : Counts} → r₁ ≡ Ok (e, y) → c.count.0 ≤ e.count.0 → {t' : List ℕ} {r : Done} → Closed scope kind c k e y T₁.rows t' r
        → Ends b scope kind s c k h left T (tables t' T₁.errors T₁.requests) r
    ends_got {e} {y} z grown w =
        record {
          does = λ m n st T₀ first a. record {
            acting = λ l. closing_got scope (seq_assoc (seq_got (a.acting l) (body_of b) d x q (g.acting l))) (starts_from first) e y z grown w;
          };
        }

-- A directive's head -------------------------------------------------------

directive_cost : (w : List ℕ) → (cost (directive_expression w)).debt + 4 * length w ≤ (cost (directive_expression w)).gain + 4
unfolding all_rules directive_expression directive_of word_of
directive_cost w = omega arith

directive_dues : (w : List ℕ) → ((dues error_prices (directive_expression w)).debt ≡ 0) × ((dues scope_prices (directive_expression w)).debt ≡ 0)
    × ((dues request_prices (directive_expression w)).debt ≡ 0)
unfolding all_rules directive_expression directive_of word_of
directive_dues w = (refl, refl, refl)

pub directive_headed : (w : List ℕ) {s : List ℕ} {c : Cursor} {st : Counts} → 1 ≤ length w → Fit 0 s c st
    → {left : ℕ} {T T₁ : Tables} {r : Done} → Does (directive_expression w) s c st left T T₁ r → Headed s c r
directive_headed w {s} {c} {st} some h {r = r} a =
    record {
      fit = fits;
      grown = λ d x q. (acted (directive_expression w) h.within (a.acting 0) (directive_sober w) d x q).grown;
    }
  where
    fits : (d : Cursor) (x : Counts) → r ≡ Ok (d, x) → Fit 0 s d x
    fits d x q =
        let b = acted (directive_expression w) h.within (a.acting 0) (directive_sober w) d x q in
        let row = directive_cost w in
        let due = directive_dues w in
        record {
          small = h.small;
          within = b.within;
          few = omega (arith, h.few, b.rows, row, some);
          charged = omega (arith, h.charged, b.charged, due.0);
          scopes = omega (arith, h.scopes, b.scopes, due.1);
          requests = omega (arith, h.requests, b.requests, due.2);
        }
