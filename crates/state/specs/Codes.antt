-- The numbers of the errors, as the written reading reports them.
use Rattle.std.specs.Prelude.{ℕ}
use Rattle.state.specs.declared.ErrorCode.{ErrorCode}
use Rattle.state.specs.declared.ErrorCode.TheVariants.{UnterminatedComment, UnexpectedText, ExpectedExpression, ExpectedConfigurationObject, ExpectedClosingDelimiter}

abbrev pub code_number : ErrorCode → ℕ
code_number UnterminatedComment = 1
code_number UnexpectedText = 2
code_number ExpectedExpression = 3
code_number ExpectedConfigurationObject = 4
code_number ExpectedClosingDelimiter = 5
