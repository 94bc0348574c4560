-- The numbers of the kinds of rows, as crate reading has them.
use Rattle.std.specs.Prelude.{ℕ}
use Rattle.reading.specs.Kind.{alignᵏ, assertᵏ, bracesᵏ, configᵏ, config_pairᵏ, dataᵏ, definitionᵏ, eofᵏ, errorᵏ, expressionᵏ, ifᵏ, importᵏ, fileᵏ, instructionᵏ, labelᵏ, loopᵏ, macro_definitionᵏ, macro_invocationᵏ, program_counter_definitionᵏ, segmentᵏ, testᵏ, textᵏ, traceᵏ, variable_definitionᵏ, blockᵏ, operandᵏ, stringᵏ, binaryᵏ, factorᵏ, current_pcᵏ, parensᵏ, callᵏ, identifierᵏ, numberᵏ, string_factorᵏ, charᵏ, wordᵏ, nameᵏ, pathᵏ, pieceᵏ, mnemonicᵏ, registerᵏ, operatorᵏ, number_typeᵏ, number_textᵏ, modifierᵏ, data_sizeᵏ, variable_typeᵏ, encodingᵏ, import_argumentᵏ, config_valueᵏ}
use Rattle.table.specs.declared.Kind.{Kind}
use Rattle.table.specs.declared.Kind.TheVariants.{Align, Assert, Braces, Config, ConfigPair, Data, Definition, Eof, Error, Expression, If, Import, File, Instruction, Label, Loop, MacroDefinition, MacroInvocation, ProgramCounterDefinition, Segment, Test, Text, Trace, VariableDefinition, Block, Operand, String, Binary, Factor, CurrentPc, Parens, Call, Identifier, Number, StringFactor, Char, Word, Name, Path, Piece, Mnemonic, Register, Operator, NumberType, NumberText, Modifier, DataSize, VariableType, Encoding, ImportArgument, ConfigValue}

abbrev pub kind_number : Kind → ℕ
kind_number Align = alignᵏ
kind_number Assert = assertᵏ
kind_number Braces = bracesᵏ
kind_number Config = configᵏ
kind_number ConfigPair = config_pairᵏ
kind_number Data = dataᵏ
kind_number Definition = definitionᵏ
kind_number Eof = eofᵏ
kind_number Error = errorᵏ
kind_number Expression = expressionᵏ
kind_number If = ifᵏ
kind_number Import = importᵏ
kind_number File = fileᵏ
kind_number Instruction = instructionᵏ
kind_number Label = labelᵏ
kind_number Loop = loopᵏ
kind_number MacroDefinition = macro_definitionᵏ
kind_number MacroInvocation = macro_invocationᵏ
kind_number ProgramCounterDefinition = program_counter_definitionᵏ
kind_number Segment = segmentᵏ
kind_number Test = testᵏ
kind_number Text = textᵏ
kind_number Trace = traceᵏ
kind_number VariableDefinition = variable_definitionᵏ
kind_number Block = blockᵏ
kind_number Operand = operandᵏ
kind_number String = stringᵏ
kind_number Binary = binaryᵏ
kind_number Factor = factorᵏ
kind_number CurrentPc = current_pcᵏ
kind_number Parens = parensᵏ
kind_number Call = callᵏ
kind_number Identifier = identifierᵏ
kind_number Number = numberᵏ
kind_number StringFactor = string_factorᵏ
kind_number Char = charᵏ
kind_number Word = wordᵏ
kind_number Name = nameᵏ
kind_number Path = pathᵏ
kind_number Piece = pieceᵏ
kind_number Mnemonic = mnemonicᵏ
kind_number Register = registerᵏ
kind_number Operator = operatorᵏ
kind_number NumberType = number_typeᵏ
kind_number NumberText = number_textᵏ
kind_number Modifier = modifierᵏ
kind_number DataSize = data_sizeᵏ
kind_number VariableType = variable_typeᵏ
kind_number Encoding = encodingᵏ
kind_number ImportArgument = import_argumentᵏ
kind_number ConfigValue = config_valueᵏ
