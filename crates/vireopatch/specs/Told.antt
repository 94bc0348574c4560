-- A `Result` as the answer or the refusal that it is: the refusal's number and what it gives are those of its type's `Refusal`.
use Rattle.std.specs.Prelude.{ℕ, Result, Ok, Err}
use Rattle.reading.specs.Table.{Answer, answered, refused}

abbrev pub told : {T E : Type 0} → (E → ℕ) → (E → ℕ) → Result T E → Answer T
told number gives (Ok x) = answered x
told number gives (Err e) = refused (number e) (gives e)
