-- Arguments of calls. Behind a bracket the rule `expr` is `expression`.
use mathlib.Core.Path.{◌≡◌, refl, ap, sym, subst, ◌∙◌}
use mathlib.Core.Bool.{Bool}
use mathlib.Core.List.{List}
use Prim.Native.Nat.{ℕ, ◌-◌, ◌≤◌}
use native.Mathlib.Omega.{arith}
use Rattle.reading.specs.Grammar.{expr, rule, ◌▸◌}
use Rattle.reading.specs.Rules.{opt, trivia, arg_list, expression_arg, call_args, expression}
use Rattle.table.specs.Words.{replaced}
use Rattle.cursor.specs.Text.{cursor, Skips}
use Rattle.cursor.specs.Agree.{Reads, Leafs}
use Rattle.cursor.specs.declared.Cursor.{Cursor}
use Rattle.cursor.specs.declared.Skip.{Skip}
use Rattle.cursor.specs.Read.{Read}
use Rattle.cursor.proofs.Agree.{got_miss, miss_deep}
use Rattle.cursor.proofs.Laws.{Stepped, stepped, reading_to, reads_leaf, opt_miss, opt_first, argument_out, argument_got}
use Rattle.lexis.specs.Spaced.{spaced}
use Rattle.expression.proofs.Facts.{opt_list_quiet, expression_solid}
use Rattle.expression.proofs.Steps.{then_out, then_got, rule_reads, skips_told, expressed}
use Rattle.cursor.specs.declared.Stop.{Stop}
use Rattle.cursor.specs.declared.Stop.TheVariants.{Miss, Deep}
use Rattle.std.specs.Prelude.{Ok, Err, IsErr, is_err}

-- Arguments --------------------------------------------------------------------

-- an expression behind its trivia, whose root takes the argument's places
module _ {s s' s'' : List ℕ} {c c' c'' : Cursor} {k : Skip} (o : 1 ≤ c.at.0) (e : s' ≡ s) (f : c' ≡ c) (x : Skips trivia s' c'.at.0 c'.met k)
    (g : s'' ≡ s') (h : c'' ≡ cursor k.at.0 c'.count.0 k.met) {left : ℕ} {t t₁ : List ℕ} {r₁ : Read} (a : Reads expression s'' c'' left t t₁ r₁) where
  skips : Skips trivia s c.at.0 c.met k
  skips = skips_told e f x

  argued : Reads (rule expr) s (cursor k.at.0 c.count.0 k.met) left t t₁ r₁
  argued = rule_reads expr tt (let z = skips.on in omega arith) skips.within (expressed e f g h a)

  pub argument_none : IsErr r₁ → Reads expression_arg s c left t t₁ r₁
  unfolding expression_arg
  argument_none w = record { reading = λ l. argument_out skips (argued.reading l) w }

  module _ {d : Cursor} (q : r₁ ≡ Ok d) where
    pub argument_steps : Stepped s k.at.0 c.count.0 d
    argument_steps = stepped expression_solid d skips.within ((expressed e f g h a).reading 0) q

    pub argument_one : {t' : List ℕ} → t' ≡ replaced t₁ (d.count.0 - 1) c.at.0 k.at.0 d.at.0 → Reads expression_arg s c left t t' (Ok d)
    unfolding expression_arg
    argument_one y =
        record { reading = λ l. reading_to y (argument_got skips (argued.reading l) tt tt d q (d.count.0 - 1) (let i = argument_steps.grown in omega arith)) }

-- arguments, or none, and `)`
module _ {s : List ℕ} {c : Cursor} {left : ℕ} {t t₁ : List ℕ} {r₁ : Read} (a : Reads (arg_list expression_arg) s c left t t₁ r₁) where
  pub args_got : {d : Cursor} → r₁ ≡ Ok d → {t₂ : List ℕ} {r₂ : Read} → Leafs (spaced 41) s d t₁ t₂ r₂ → Reads call_args s c left t t₂ r₂
  unfolding call_args
  args_got {d} e b =
      then_got (record { reading = λ l. opt_first (a.reading l) λ x q. got_miss d x (sym e ∙ q) }) opt_list_quiet e (reads_leaf left b)

  pub args_miss : {z : Stop Bool} {x : Bool} → r₁ ≡ Err z → z ≡ Miss x → {t₂ : List ℕ} {r₂ : Read} → Leafs (spaced 41) s (cursor c.at.0 c.count.0 x) t₁ t₂ r₂
      → Reads call_args s c left t t₂ r₂
  unfolding call_args
  args_miss {x = x} e q b =
      then_got {r₁ = Ok (cursor c.at.0 c.count.0 x)} (record { reading = λ l. opt_miss (a.reading l) x (e ∙ ap Err q) }) opt_list_quiet refl (reads_leaf left b)

  pub args_deep : r₁ ≡ Err Deep → Reads call_args s c left t t₁ (Err Deep)
  unfolding call_args
  args_deep e =
      subst (Reads (opt (arg_list expression_arg) ▸ spaced 41) s c left t t₁) e
      (then_out (record { reading = λ l. opt_first (a.reading l) λ x q. miss_deep x (sym q ∙ e) }) (ap is_err e))
