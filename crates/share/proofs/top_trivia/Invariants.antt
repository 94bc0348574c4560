-- The invariant: the sum so far, which is not above the bound.
use mathlib.Core.Path.{◌≡◌}
use Prim.Native.Nat.{◌≤◌}
use lib.ListN.{get_or}
use Rattle.share.specs.Shares.{sum}
use Rattle.share.specs.Words.{trivia_at}
use Rattle.share.proofs.top_trivia.Given as goal

abbrev pub invariant-loop-root : goal.invariant-loop-root
invariant-loop-root l = (l.total ≡ sum (λ k. trivia_at l.rows (get_or l.roots k 0)) l.root-index) × (l.total ≤ l.bytes)
