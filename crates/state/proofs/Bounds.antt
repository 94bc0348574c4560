-- Bounds of an answer, from what antt computes of the parser: its place, its rows, its errors, scope numbers and requests. One law for all
-- parsers; so a reader may be called where another one has answered.
use mathlib.Core.Path.{◌≡◌, refl, ap, sym, subst, ◌∙◌}
use mathlib.Core.Bool.{Bool, true, false, ◌&&◌, not, cond}
use mathlib.Core.List.{List, [], ◌∷◌}
use Prim.Native.Nat.{ℕ, zero, suc, ◌+◌, ◌*◌, ◌≤◌, ◌<◌}
use native.Mathlib.Omega.{arith}
use lib.Dec.{T as Passes, leb→le}
use lib.ListN.{length, length-drop}
use Rattle.reading.specs.Grammar.{Rows, State, Request, Reply, Parser, error_at, parse}
use Rattle.reading.proofs.Ahead.{Ahead, On, ahead}
use Rattle.reading.proofs.Fuel.{reads_on}
use Rattle.reading.proofs.Cost.{paid, cost, slim, Few, slimly, reads_slim, all_four}
use Rattle.reading.proofs.Moves.{moves, Past, moving, reads_moving}
use Rattle.reading.proofs.Meters.{Paid, bit, dues, fair, parse_metered, errors_and_flag, error_prices, errors_paid, error_meter, request_prices, requests_paid, request_meter}
use Rattle.reading.proofs.Meters.{scope_prices, scopes_paid, scope_meter}
use Rattle.cursor.specs.Text.{here}
use Rattle.cursor.specs.declared.Cursor.{Cursor}
use Rattle.state.specs.declared.State.{State as Counts}
use Rattle.state.specs.Done.{Done}
use Rattle.state.specs.Acts.{counts, Tables, rules, Acting, charge, Fit}
use Rattle.state.proofs.Agree.{Found, found, Lost, lost}
use Rattle.cursor.specs.declared.Stop.TheVariants.{Miss}
use Rattle.std.specs.Prelude.{Ok, Err}

-- The tests ----------------------------------------------------------------

-- what a parser writes and does to the state is paid for by its bytes, up to what it owes
abbrev pub sober : Parser → Bool
sober g = (slim g && fair error_prices g) && (fair scope_prices g && fair request_prices g)

-- and it owes nothing
abbrev pub settled : Parser → Bool
settled g = (paid (cost g) && paid (dues error_prices g)) && (paid (dues scope_prices g) && paid (dues request_prices g))

-- Some state that the counts stand for -------------------------------------

abbrev copies : {A : Type 0} → A → ℕ → List A
copies x zero = []
copies x (suc n) = x ∷ copies x n

copies_length : {A : Type 0} (x : A) (n : ℕ) → length (copies x n) ≡ n
copies_length x zero = refl
copies_length x (suc n) = ap suc (copies_length x n)

abbrev pub some_state : Counts → State
some_state st =
    record {
      scope = st.scope;
      swallow = st.swallow;
      errors = copies (error_at 0 0) st.errors;
      requests = copies (record { low = 0; high = 0 }) st.requests;
      peak = 0;
    }

pub some_counts : (st : Counts) → counts (some_state st) ≡ st
some_counts st = λ i.
    record {
      scope = st.scope;
      swallow = st.swallow;
      errors = copies_length (error_at 0 0) st.errors i;
      requests = copies_length {A = Request} (record { low = 0; high = 0 }) st.requests i;
    }

-- the meter of errors is the charge
charge_is : (n : ℕ) (b : Bool) → n + bit (not b) ≡ cond b n (n + 1)
charge_is n true = omega arith
charge_is n false = refl

flag_charge : (w : State) {st : Counts} → counts w ≡ st → errors_and_flag w ≡ charge st
unfolding charge
flag_charge w p = charge_is (length w.errors) w.swallow ∙ ap charge p

-- What an answer says ------------------------------------------------------

-- from the place i, after n rows, with the counts st
pub record Advanced (g : Parser) (s : List ℕ) (i n : ℕ) (st : Counts) (d : Cursor) (x : Counts) : Type 0 where
  pub on : i ≤ d.at.0
  pub within : d.at.0 ≤ length s
  pub clear : d.met ≡ false
  pub grown : n ≤ d.count.0
  pub rows : d.count.0 + (cost g).gain + 4 * i ≤ 4 * d.at.0 + (cost g).debt + n
  pub charged : charge x + i + (dues error_prices g).gain ≤ charge st + d.at.0 + (dues error_prices g).debt
  pub scopes : x.scope + i + (dues scope_prices g).gain ≤ st.scope + d.at.0 + (dues scope_prices g).debt
  pub requests : x.requests + i + (dues request_prices g).gain ≤ st.requests + d.at.0 + (dues request_prices g).debt

pub record Stayed (st x : Counts) : Type 0 where
  pub charged : charge x ≤ charge st
  pub scopes : x.scope ≤ st.scope
  pub requests : x.requests ≤ st.requests

module _ (g : Parser) {s : List ℕ} {l lim i base : ℕ} {st : Counts} {T T' : Tables} {r : Done} (h : i ≤ length s) (a : Acting g s l lim i base st T T' r) where
  abbrev w₀ : State
  w₀ = some_state st

  abbrev read : Reply Rows
  read = parse (rules s) g l (here s i) w₀

  module _ (t : Passes (sober g)) where
    abbrev test : Passes (slim g) × Passes (fair error_prices g) × Passes (fair scope_prices g) × Passes (fair request_prices g)
    test = all_four (slim g) (fair error_prices g) (fair scope_prices g) (fair request_prices g) t

    pub acted : (d : Cursor) (x : Counts) → r ≡ Ok (d, x) → Advanced g s i base st d x
    unfolding rules
    acted d x q = go (found lim base read d x (sym q ∙ (a.doing.acts w₀ (some_counts st) (omega arith)).answer))
      where
        go : Found read lim base d x → Advanced g s i base st d x
        go f =
            let p = here s i in
            let y : Ahead p f.q = subst (On p) f.is (ahead (rules s) (reads_on (length s)) g l p w₀) in
            let few = subst (Few length (cost g) p) f.is (slimly (rules s) (reads_slim (length s)) g test.0 l p w₀).few in
            let e = subst (Paid errors_and_flag (dues error_prices g) p w₀) f.is (parse_metered error_meter errors_paid (length s) g test.1 l p w₀).pays in
            let n = subst (Paid (λ w. w.scope) (dues scope_prices g) p w₀) f.is (parse_metered scope_meter scopes_paid (length s) g test.2 l p w₀).pays in
            let k = subst (Paid (λ w. length w.requests) (dues request_prices g) p w₀) f.is (parse_metered request_meter requests_paid (length s) g test.3 l p w₀).pays in
            record {
              on = omega (arith, f.at, y.on);
              within = omega (arith, f.at, y.sum, length-drop i s);
              clear = f.clear;
              grown = omega (arith, f.count);
              rows = omega (arith, f.at, f.count, few.rows);
              charged = omega (arith, f.at, e, flag_charge f.w f.state, flag_charge w₀ (some_counts st));
              scopes = omega (arith, f.at, n, ap (λ (st : Counts). st.scope) f.state);
              requests = omega (arith, f.at, k, ap (λ (st : Counts). st.requests) f.state, ap (λ (st : Counts). st.requests) (some_counts st));
            }

    pub missed : (x : Counts) → r ≡ Err (Miss x) → Stayed st x
    unfolding rules
    missed x q = go (lost lim base read x (sym q ∙ (a.doing.acts w₀ (some_counts st) (omega arith)).answer))
      where
        go : Lost read lim x → Stayed st x
        go f =
            let p = here s i in
            let e = subst (Paid errors_and_flag (dues error_prices g) p w₀) f.is (parse_metered error_meter errors_paid (length s) g test.1 l p w₀).pays in
            let n = subst (Paid (λ w. w.scope) (dues scope_prices g) p w₀) f.is (parse_metered scope_meter scopes_paid (length s) g test.2 l p w₀).pays in
            let k = subst (Paid (λ w. length w.requests) (dues request_prices g) p w₀) f.is (parse_metered request_meter requests_paid (length s) g test.3 l p w₀).pays in
            record {
              charged = omega (arith, e, flag_charge f.w f.state, flag_charge w₀ (some_counts st));
              scopes = omega (arith, n, ap (λ (st : Counts). st.scope) f.state);
              requests = omega (arith, k, ap (λ (st : Counts). st.requests) f.state, ap (λ (st : Counts). st.requests) (some_counts st));
            }

  -- what moves has read a byte
  pub moved : Passes (moves g) → (d : Cursor) (x : Counts) → r ≡ Ok (d, x) → i < d.at.0
  unfolding rules
  moved t d x q = go (found lim base read d x (sym q ∙ (a.doing.acts w₀ (some_counts st) (omega arith)).answer))
    where
      go : Found read lim base d x → i < d.at.0
      go f =
          let y = subst (Past (here s i)) f.is (moving (rules s) (reads_on (length s)) (reads_moving (length s)) g t l (here s i) w₀) in
          omega (arith, f.at, y)

-- Where the next reader may be called --------------------------------------

module _ {k : ℕ} {s : List ℕ} {c : Cursor} {st : Counts} (h : Fit k s c st) where
  pub fit_got : (g : Parser) → Passes (sober g) → Passes (settled g) → {l lim : ℕ} {T T' : Tables} {r : Done}
      → Acting g s l lim c.at.0 c.count.0 st T T' r → (d : Cursor) (x : Counts) → r ≡ Ok (d, x) → Fit k s d x
  fit_got g t u a d x q =
      let b = acted g h.within a t d x q in
      let v = all_four (paid (cost g)) (paid (dues error_prices g)) (paid (dues scope_prices g)) (paid (dues request_prices g)) u in
      let row = leb→le (cost g).debt (cost g).gain v.0 in
      let err = leb→le (dues error_prices g).debt (dues error_prices g).gain v.1 in
      let num = leb→le (dues scope_prices g).debt (dues scope_prices g).gain v.2 in
      let req = leb→le (dues request_prices g).debt (dues request_prices g).gain v.3 in
      record {
        small = h.small;
        within = b.within;
        few = omega (arith, h.few, b.rows, row);
        charged = omega (arith, h.charged, b.charged, err);
        scopes = omega (arith, h.scopes, b.scopes, num);
        requests = omega (arith, h.requests, b.requests, req);
      }

  pub fit_miss : (g : Parser) → Passes (sober g) → {l lim : ℕ} {T T' : Tables} {r : Done}
      → Acting g s l lim c.at.0 c.count.0 st T T' r → (x : Counts) → r ≡ Err (Miss x) → Fit k s c x
  fit_miss g t a x q =
      let b = missed g h.within a t x q in
      record {
        small = h.small;
        within = h.within;
        few = h.few;
        charged = omega (arith, h.charged, b.charged);
        scopes = omega (arith, h.scopes, b.scopes);
        requests = omega (arith, h.requests, b.requests);
      }

errors_charge : (st : Counts) → st.errors ≤ charge st
unfolding charge
errors_charge st = go st.swallow
  where
    go : (b : Bool) → st.errors ≤ cond b st.errors (st.errors + 1)
    go true = omega arith
    go false = omega arith

-- so that another report may be made
pub fit_errors : {k : ℕ} {s : List ℕ} {c : Cursor} {st : Counts} → Fit k s c st → st.errors ≤ 65537
fit_errors {st = st} h = omega (arith, h.small, h.within, h.charged, errors_charge st)
