-- Document 02, F-3 (crate number, specs/Part), of `vireopatch_value`, in the numbers that a caller in C holds: any two calls with one number
-- type, known or not, that meet the contract.
use mathlib.Core.Path.{◌≡◌, ap, sym, ◌∙◌}
use mathlib.Core.Option.{Option, some}
use Prim.Native.Nat.{ℕ}
use Rattle.reading.specs.Number.{Base, number_value}
use Rattle.number.specs.Part.{Part, bytes_of, Zeros, one, Alone}
use Rattle.number.proofs.Part.{same_bytes, zeros_before, zeros_one}
use Rattle.vireopatch.specs.Seen.{base_numbered, value_in, seen_value, exported_value}

value_known : {x : Option Base} (b : Base) (p q : Part) → x ≡ some b → number_value b (bytes_of p) ≡ number_value b (bytes_of q) → value_in x (bytes_of p) ≡ value_in x (bytes_of q)
unfolding value_in
value_known b p q e f = ap (λ (x : Option Base). value_in x (bytes_of p)) e ∙ (f ∙ ap (λ (x : Option Base). value_in x (bytes_of q)) (sym e))

module _ (ty : ℕ) (p : Part) (c v : ℕ) (m : seen_value c v ≡ exported_value (value_in (base_numbered ty) (bytes_of p))) where
  pub vireopatch_value_alone : (q : Part) (d w : ℕ) → seen_value d w ≡ exported_value (value_in (base_numbered ty) (bytes_of q))
      → Alone (base_numbered ty) p (seen_value c v) q (seen_value d w)
  vireopatch_value_alone q d w n =
      record {
        same = λ e. m ∙ (ap (λ t. exported_value (value_in (base_numbered ty) t)) (same_bytes e) ∙ sym n);
        zeros = λ b e k z f. m ∙ (ap exported_value (value_known b p q e (zeros_before b z f)) ∙ sym n);
      }

  pub vireopatch_value_one : {b : Base} {n : ℕ} → base_numbered ty ≡ some b → Zeros n p one → seen_value c v ≡ seen_value 0 1
  unfolding value_in exported_value
  vireopatch_value_one {b} e z = m ∙ ap exported_value (ap (λ (x : Option Base). value_in x (bytes_of p)) e ∙ zeros_one b z)
