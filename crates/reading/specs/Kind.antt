-- The kinds of rows, in the order of ast.rs. A name that ends in ᵏ is a kind.
use Rattle.std.specs.Prelude.{ℕ}

-- the cases of Token
abbrev pub alignᵏ : ℕ
alignᵏ = 1

abbrev pub assertᵏ : ℕ
assertᵏ = 2

abbrev pub bracesᵏ : ℕ
bracesᵏ = 3

abbrev pub configᵏ : ℕ
configᵏ = 4

abbrev pub config_pairᵏ : ℕ
config_pairᵏ = 5

abbrev pub dataᵏ : ℕ
dataᵏ = 6

abbrev pub definitionᵏ : ℕ
definitionᵏ = 7

abbrev pub eofᵏ : ℕ
eofᵏ = 8

abbrev pub errorᵏ : ℕ
errorᵏ = 9

abbrev pub expressionᵏ : ℕ
expressionᵏ = 10

abbrev pub ifᵏ : ℕ
ifᵏ = 11

abbrev pub importᵏ : ℕ
importᵏ = 12

abbrev pub fileᵏ : ℕ
fileᵏ = 13

abbrev pub instructionᵏ : ℕ
instructionᵏ = 14

abbrev pub labelᵏ : ℕ
labelᵏ = 15

abbrev pub loopᵏ : ℕ
loopᵏ = 16

abbrev pub macro_definitionᵏ : ℕ
macro_definitionᵏ = 17

abbrev pub macro_invocationᵏ : ℕ
macro_invocationᵏ = 18

abbrev pub program_counter_definitionᵏ : ℕ
program_counter_definitionᵏ = 19

abbrev pub segmentᵏ : ℕ
segmentᵏ = 20

abbrev pub testᵏ : ℕ
testᵏ = 21

abbrev pub textᵏ : ℕ
textᵏ = 22

abbrev pub traceᵏ : ℕ
traceᵏ = 23

abbrev pub variable_definitionᵏ : ℕ
variable_definitionᵏ = 24

-- Block, Operand, InterpolatedString; the two cases of Expression
abbrev pub blockᵏ : ℕ
blockᵏ = 30

abbrev pub operandᵏ : ℕ
operandᵏ = 31

abbrev pub stringᵏ : ℕ
stringᵏ = 32

abbrev pub binaryᵏ : ℕ
binaryᵏ = 33

abbrev pub factorᵏ : ℕ
factorᵏ = 34

-- the cases of ExpressionFactor
abbrev pub current_pcᵏ : ℕ
current_pcᵏ = 35

abbrev pub parensᵏ : ℕ
parensᵏ = 36

abbrev pub callᵏ : ℕ
callᵏ = 37

abbrev pub identifierᵏ : ℕ
identifierᵏ = 38

abbrev pub numberᵏ : ℕ
numberᵏ = 39

abbrev pub string_factorᵏ : ℕ
string_factorᵏ = 40

-- the other Located values
abbrev pub charᵏ : ℕ
charᵏ = 41

abbrev pub wordᵏ : ℕ
wordᵏ = 42

abbrev pub nameᵏ : ℕ
nameᵏ = 43

abbrev pub pathᵏ : ℕ
pathᵏ = 44

abbrev pub pieceᵏ : ℕ
pieceᵏ = 45

abbrev pub mnemonicᵏ : ℕ
mnemonicᵏ = 46

abbrev pub registerᵏ : ℕ
registerᵏ = 47

abbrev pub operatorᵏ : ℕ
operatorᵏ = 48

abbrev pub number_typeᵏ : ℕ
number_typeᵏ = 49

abbrev pub number_textᵏ : ℕ
number_textᵏ = 50

abbrev pub modifierᵏ : ℕ
modifierᵏ = 51

abbrev pub data_sizeᵏ : ℕ
data_sizeᵏ = 52

abbrev pub variable_typeᵏ : ℕ
variable_typeᵏ = 53

abbrev pub encodingᵏ : ℕ
encodingᵏ = 54

abbrev pub import_argumentᵏ : ℕ
import_argumentᵏ = 55

abbrev pub config_valueᵏ : ℕ
config_valueᵏ = 56
