-- The tests that cursor's laws ask for, of what stands behind trivia: it is quiet, its bytes pay for its rows, its last row ends where it ends.
use mathlib.Core.Bool.{Bool, true, false}
use mathlib.Core.List.{List}
use mathlib.Core.Path.{◌≡◌}
use Prim.Native.Nat.{ℕ, ◌+◌, ◌≤◌}
use native.Mathlib.Omega.{arith}
use lib.Dec.{T, le→leb}
use lib.ListN.{length}
use Rattle.reading.proofs.Cost.{price, cost, slim}
use Rattle.reading.proofs.Leaf.{all_one}
use Rattle.reading.proofs.Tests.{quiet}
use Rattle.reading.specs.Byte.{is}
use Rattle.reading.specs.Grammar.{Rows, Leaf, one, Parser, leaf, node, pick, always}
use Rattle.reading.specs.Kind.{charᵏ, nameᵏ, mnemonicᵏ, operatorᵏ, modifierᵏ, encodingᵏ}
use Rattle.reading.specs.Rules.{multiline_trivia, identifier_name, name, mname, path, modifier, term_operator, expression_operator, encoding, optional_suffix, all_rules}
use Rattle.cursor.proofs.Laws.{Moved, moved, Solid}
use Rattle.cursor.specs.Agree.{Reading}
use Rattle.cursor.specs.declared.Cursor.{Cursor}
use Rattle.cursor.specs.Read.{Read}
use Rattle.trivia.specs.Piece.{trivia_of}
use Rattle.word.specs.Words.{modifiers, term_operators, expression_operators, encodings, mnemonic_list}
use Rattle.std.specs.Prelude.{Ok}

-- a row around what pays for it, and a word of a list
pub node_solid : (lines : Bool) (k : ℕ) (f : Rows → ℕ) (m : Parser) → T (quiet m) → T (slim m) → (cost m).debt + 1 ≤ (cost m).gain
    → Solid (node k f (trivia_of lines) m)
unfolding all_rules
node_solid true k f m u w h =
    record { quieted = u; slimmed = w; rooting = tt; paying = le→leb (1 + (cost m).debt) (0 + (cost m).gain) (omega arith) }
node_solid false k f m u w h =
    record { quieted = u; slimmed = w; rooting = tt; paying = le→leb (1 + (cost m).debt) (0 + (cost m).gain) (omega arith) }

pub pick_solid : (lines : Bool) (k : ℕ) (xs : List (Leaf × ℕ)) → T (all_one xs) → Solid (pick k (trivia_of lines) xs)
unfolding all_rules
pick_solid true k xs u = record { quieted = tt; slimmed = u; rooting = tt; paying = tt }
pick_solid false k xs u = record { quieted = tt; slimmed = u; rooting = tt; paying = tt }

pub char_solid : (lines : Bool) (b : ℕ) → Solid (node charᵏ (always b) (trivia_of lines) (leaf (one (is b))))
char_solid lines b = node_solid lines charᵏ (always b) (leaf (one (is b))) tt tt (omega arith)

-- Rules ----------------------------------------------------------------------

pub name_solid : Solid name
unfolding name identifier_name
name_solid = node_solid false nameᵏ (always 0) identifier_name tt tt (omega arith)

pub mname_solid : Solid mname
unfolding mname identifier_name
mname_solid = node_solid true nameᵏ (always 0) identifier_name tt tt (omega arith)

pub path_solid : Solid path
unfolding all_rules
path_solid = record { quieted = tt; slimmed = tt; rooting = tt; paying = tt }

pub modifier_solid : Solid modifier
unfolding modifier
modifier_solid = pick_solid false modifierᵏ modifiers tt

pub term_operator_solid : Solid term_operator
unfolding term_operator
term_operator_solid = pick_solid false operatorᵏ term_operators tt

pub expression_operator_solid : Solid expression_operator
unfolding expression_operator
expression_operator_solid = pick_solid false operatorᵏ expression_operators tt

pub encoding_solid : Solid encoding
unfolding encoding
encoding_solid = pick_solid false encodingᵏ encodings tt

pub mnemonic_solid : (implied : Bool) → Solid (pick mnemonicᵏ multiline_trivia (mnemonic_list implied))
mnemonic_solid true = pick_solid true mnemonicᵏ (mnemonic_list true) tt
mnemonic_solid false = pick_solid true mnemonicᵏ (mnemonic_list false) tt

-- a suffix may be empty
pub suffix_quiet : T (quiet optional_suffix)
unfolding all_rules
suffix_quiet = tt

pub suffix_moved : {s : List ℕ} {l i lim : ℕ} {met : Bool} {n : ℕ} {t t' : List ℕ} {r : Read} (d : Cursor) → i ≤ length s
    → Reading optional_suffix s l lim i met n t t' r → r ≡ Ok d → Moved (price 0 0) s i n d
unfolding all_rules
suffix_moved d h a e = moved optional_suffix tt tt d h a e
