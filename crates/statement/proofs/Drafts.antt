-- A reader that is lent the part of the row table behind the rows so far does there what it would do in the whole table.
use Rattle.state.proofs.Agree.{not_got}
use mathlib.Core.Path.{◌≡◌, refl, ap, sym, subst, ◌∙◌}
use mathlib.Core.Bool.{Bool, true, false}
use mathlib.Core.List.{List, [], ◌++◌, append-nil}
use mathlib.Core.Logic.{◌⊎◌}
use Prim.Native.Nat.{ℕ, ◌+◌, ◌*◌, ◌-◌, ◌^◌, ◌≤◌, ◌<◌}
use native.Mathlib.Omega.{arith}
use lib.Dec.{T as Passes, ltb}
use lib.ListN.{length, take, drop, length-drop, drop_of_length-le}
use lib.Seq.{take_all}
use Rattle.reading.specs.Grammar.{Rows, Reply, ok, err, Parser, parse}
use Rattle.reading.specs.Table.{row_width, max_text}
use Rattle.reading.proofs.Cost.{cost}
use Rattle.table.specs.Words.{drafts, Holds, HoldsRows}
use Rattle.table.proofs.Holds.{drafts_written, words_append, words_length}
use Rattle.line.specs.Lines.{lined, Numbered, Cut}
use Rattle.line.proofs.Fills.{lined_length, lined_again, numbered_so, numbered_same}
use Rattle.line.proofs.Parts.{lined_front, lined_behind, holds_behind}
use Rattle.cursor.specs.Text.{here, cursor}
use Rattle.cursor.specs.declared.Cursor.{Cursor}
use Rattle.state.specs.declared.State.{State as Counts}
use Rattle.state.specs.Done.{Done}
use Rattle.state.specs.Acts.{counts, tables, rules, deep_or, done_of, rows_read, Does, Fit}
use Rattle.state.specs.Lent.{seen, Same}
use Rattle.state.specs.declared.Tables.{Tables as Lent}
use Rattle.state.proofs.Lift.{acting_from}
use Rattle.state.proofs.Bounds.{sober, acted}
use Rattle.statement.specs.Lined.{shifted, Appends, AppendsLeaf, LinedLeaf}
use Rattle.cursor.specs.declared.Stop.TheVariants.{Miss, Deep}
use Rattle.std.specs.Prelude.{Ok, Err, IsErr}

-- an answer of a reader that counts from 0 is, behind n rows, that of one that counts from n
shifted_is : (lim n : ℕ) (o : Reply Rows) → shifted n (done_of lim 0 o) ≡ done_of lim n o
unfolding done_of
shifted_is lim n (ok v q w) = go (ltb lim w.peak)
  where
    go : (b : Bool) → shifted n (deep_or b (Ok (cursor q.at (0 + length v) false, counts w))) ≡ deep_or b (Ok (cursor q.at (n + length v) false, counts w))
    go true = refl
    go false = ap (λ (m : ℕ). Ok (cursor q.at m false, counts w)) (let e : n + (0 + length v) ≡ n + length v = omega arith in e)
shifted_is lim n (err w) = go (ltb lim w.peak)
  where
    go : (b : Bool) → shifted n (deep_or b (Err (Miss (counts w)))) ≡ deep_or b (Err (Miss (counts w)))
    go true = refl
    go false = refl

nothing : (t : List ℕ) → HoldsRows t []
nothing t = record { word = λ i g k. absurd (let z : ⊥ = omega arith in z) }

-- in the whole table
does_behind : {g : Parser} {s : List ℕ} {at : ℕ} (n : ℕ) {st : Counts} {left : ℕ} (t v e q e' q' : List ℕ) {r : Done} (k : ℕ) → Cut k n t → length v ≡ length t - k
    → Does g s (cursor at 0 false) st left (tables (drop k t) e q) (tables v e' q') r
    → Does g s (cursor at n false) st left (tables t e q) (tables (take k t ++ v) e' q') (shifted n r)
does_behind {g} {s} {at} n {st} {left} t v e q e' q' {r} k c h a =
    record {
      acting = λ l. acting_from λ w p j.
          let o = parse (rules s) g l (here s at) w in
          let y = (a.acting l).doing.acts w p j in
          record {
            answer = ap (shifted n) y.answer ∙ shifted_is (l + left) n o;
            rows = λ m pre i d.
                let f : Holds row_width t (drafts pre) = subst (λ (x : Rows). HoldsRows t x) (append-nil pre) d in
                let z : HoldsRows v (rows_read o) = y.rows m [] refl (nothing (drop k t)) in
                subst (Holds row_width (take k t ++ v)) (sym (words_append drafts_written pre (rows_read o)))
                (holds_behind t v (drafts pre) (drafts (rows_read o)) k n c (words_length drafts_written pre ∙ ap (◌* row_width) i) h f z);
            logged = λ m d.
                let z = y.logged m (record { errors = d.errors; requests = d.requests }) in
                record { errors = z.errors; requests = z.requests };
          };
    }

-- the part that is lent, and the table when it has come back
part_is : (k : ℕ) (t : List ℕ) → take (length t - k) (drop k t) ≡ drop k t
part_is k t = take_all (length t - k) (drop k t) (omega (arith, length-drop k t))

rest_is : (k : ℕ) (t v : List ℕ) → v ++ drop (length t - k) (drop k t) ≡ v
rest_is k t v = ap (v ++◌) (drop_of_length-le (drop k t) {i = length t - k} (omega (arith, length-drop k t))) ∙ append-nil v

pub part_behind : {g : Parser} {s : List ℕ} {at : ℕ} (n : ℕ) {st : Counts} {left : ℕ} (u v e q e' q' : List ℕ) {r : Done} (k : ℕ) → Cut k n u
    → length v ≡ length (take (length u - k) (drop k u))
    → Does g s (cursor at 0 false) st left (tables (take (length u - k) (drop k u)) e q) (tables v e' q') r
    → Appends g s at n st left (tables u e q) (tables (take k u ++ (v ++ drop (length u - k) (drop k u))) e' q') r
part_behind {g} {s} {at} n {st} {left} u v e q e' q' {r} k c h a =
    record {
      drafted = λ t i.
          let l : length u ≡ length t = ap length i ∙ lined_length s t n in
          let m : length v ≡ length t - k = h ∙ ap length (part_is k u) ∙ length-drop k u ∙ ap (◌- k) l in
          let c' : Cut k n t = subst (λ (x : ℕ). (k ≤ x) × ((k ≡ n * row_width) ⊎ ((k ≡ x) × (x ≤ n * row_width)))) l c in
          let p : take (length u - k) (drop k u) ≡ drop k t = part_is k u ∙ ap (drop k) i ∙ lined_behind s t k n c' in
          record {
            draft = take k t ++ v;
            lines = ap (take k u ++◌) (rest_is k u v) ∙ ap (λ (x : List ℕ). take k x ++ v) i ∙ lined_front s t v k n c' m;
            does = does_behind n t v e q e' q' k c' m (subst (λ (x : List ℕ). Does g s (cursor at 0 false) st left (tables x e q) (tables v e' q') r) p a);
          };
    }

-- the same where the table is split and its part is lent in the struct
pub lent_behind : {g : Parser} {s : List ℕ} {at n : ℕ} {st : Counts} {left : ℕ} {u f e q : List ℕ} {r : Done} {T T' : Lent} {k : ℕ} → Cut k n u
    → Same T T' → Does g s (cursor at 0 false) st left (seen T) (seen T') r → f ≡ take k u
    → T.rows.now ≡ drop k u → T.errors.now ≡ e → T.requests.now ≡ q → (v e' q' : List ℕ) → v ≡ T'.rows.now → e' ≡ T'.errors.now → q' ≡ T'.requests.now
    → Appends g s at n st left (tables u e q) (tables (f ++ v) e' q') r
lent_behind {g} {s} {at} {n} {st} {left} {u} {f} {e} {q} {r} {T} {T'} {k} c h a y i j l v e' q' i' j' l' =
    let b : Does g s (cursor at 0 false) st left (tables (take (length u - k) (drop k u)) e q) (tables T'.rows.now T'.errors.now T'.requests.now) r =
    rw (part_is k u, sym i, sym j, sym l) a in
    let w = part_behind n u T'.rows.now e q T'.errors.now T'.requests.now k c (h.rows_length ∙ ap length (i ∙ sym (part_is k u))) b in
    rw (i', j', l', y) (subst (λ (z : List ℕ). Appends g s at n st left (tables u e q) (tables (take k u ++ z) T'.errors.now T'.requests.now) r) (rest_is k u T'.rows.now) w)

pub fit_count : {s : List ℕ} {at n : ℕ} {st : Counts} → Fit 0 s (cursor at n false) st → n < 2 ^ 32
fit_count h = omega (arith, h.few, h.within, h.small)

-- Behind rows that have their lines: no answer, or one whose rows get theirs ----

shifted_out : (n : ℕ) (r : Done) → IsErr r → shifted n r ≡ r
shifted_out n (Ok (d, x)) h = absurd (not_got {p = (d, x)} refl h)
shifted_out n (Err (Miss x)) h = refl
shifted_out n (Err Deep) h = refl

same_cursor : {d e : Cursor} {x y : Counts} → ◌≡◌ {A = Done} (Ok (d, x)) (Ok (e, y)) → d ≡ e
same_cursor {d} {e} {x} {y} h = let p : ◌≡◌ {A = Cursor × Counts} (d, x) (e, y) = cc in ap (λ (q : Cursor × Counts). q.0) p

module _ {g : Parser} {s : List ℕ} {at n : ℕ} {st : Counts} {t t₁ e e₁ : List ℕ} {r : Done} (b : AppendsLeaf g s at n st t t₁ e e₁ r) where
  pub lined_out : IsErr r → LinedLeaf g s at n st t t₁ e e₁ r
  lined_out h =
      record {
        from = λ left q u i.
            let y = (b.appends left q).drafted u i in
            record {
              draft = y.draft;
              lines = λ d x j. absurd (not_got j h);
              does = subst (λ (z : Done). Does g s (cursor at n false) st left (tables u e q) (tables y.draft e₁ q) z) (shifted_out n r h) y.does;
            };
      }

  module _ (d : Cursor) (x : Counts) (h : r ≡ Ok (d, x)) where
    pub lined_got : {t₂ : List ℕ} → t₂ ≡ lined s t₁ (n + d.count.0) → LinedLeaf g s at n st t t₂ e e₁ (Ok (cursor d.at.0 (n + d.count.0) false, x))
    lined_got k =
        record {
          from = λ left q u i.
              let y = (b.appends left q).drafted u i in
              record {
                draft = y.draft;
                lines = λ d' x' j.
                    k
                    ∙ ap (λ (z : List ℕ). lined s z (n + d.count.0)) y.lines
                    ∙ lined_again s y.draft n (n + d.count.0) (omega arith)
                    ∙ ap (λ (c : Cursor). lined s y.draft c.count.0) (same_cursor j);
                does = subst (λ (z : Done). Does g s (cursor at n false) st left (tables u e q) (tables y.draft e₁ q) z) (ap (shifted n) h) y.does;
              };
        }

    -- from rows that have their lines
    pub numbered_behind : Numbered s t n → Numbered s t₁ n
    numbered_behind k = let y = (b.appends 0 []).drafted t (numbered_same t n k) in numbered_so y.draft y.lines

    -- the rows are few
    pub few_behind : Fit 0 s (cursor at n false) st → Passes (sober g) → Numbered s t n → n + d.count.0 ≤ 4 * max_text + (cost g).debt + n
    few_behind f p k =
        let y = (b.appends 0 []).drafted t (numbered_same t n k) in
        let z = acted g f.within (y.does.acting 0) p _ x (ap (shifted n) h) in
        omega (arith, z.rows, z.within, f.small)
