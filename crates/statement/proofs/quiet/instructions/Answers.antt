use native.Mathlib.Omega.{arith}
use Rattle.statement.proofs.Lifts.{fit_lifts, reads_clear, fit_told, tells_told}
use Rattle.statement.proofs.Quiets.{tried_fit, tried_first, tried_next}
use Rattle.statement.proofs.Tests.{statement_calm}
use Rattle.statement.proofs.quiet.instructions.Goals as goal

pub lifted-requires : goal.lifted-requires
lifted-requires c = fit_lifts c.requires

pub returns-in_default : goal.returns-in_default
returns-in_default c = tried_first statement_calm.0 c.requires c.in_default.ensures (reads_clear c.clear.ensures.text c.clear.ensures.start c.instruction-read.ensures) (λ m e. grind arith)

pub returns-in_default-2 : goal.returns-in_default-2
returns-in_default-2 c = tried_first statement_calm.0 c.requires c.lifted.ensures (reads_clear c.clear.ensures.text c.clear.ensures.start c.instruction-read.ensures) (λ m e. grind arith)

pub lifted-requires-2 : goal.lifted-requires-2
lifted-requires-2 c =
    let fit1 = tried_fit statement_calm.0 c.requires c.lifted.ensures (reads_clear c.clear.ensures.text c.clear.ensures.start c.instruction-read.ensures) c.in-Err-Miss.is c.in-Err-Miss.field-0-is in
    fit_lifts fit1

pub returns-in_default-lifted : goal.returns-in_default-lifted
returns-in_default-lifted c =
    tried_next statement_calm.0 c.requires c.lifted.ensures (reads_clear c.clear.ensures.text c.clear.ensures.start c.instruction-read.ensures) c.in-Err-Miss.is c.in-Err-Miss.field-0-is λ fit1.
    tried_first statement_calm.1 fit1 c.in_default-lifted.ensures (reads_clear c.clear.ensures.text c.clear.ensures.start c.variable_definition-read.ensures) (λ m e. grind arith)

pub returns-in_default-lifted-4 : goal.returns-in_default-lifted-4
returns-in_default-lifted-4 c =
    tried_next statement_calm.0 c.requires c.lifted.ensures (reads_clear c.clear.ensures.text c.clear.ensures.start c.instruction-read.ensures) c.in-Err-Miss.is c.in-Err-Miss.field-0-is λ fit1.
    tried_first statement_calm.1 fit1 c.lifted-2.ensures (reads_clear c.clear.ensures.text c.clear.ensures.start c.variable_definition-read.ensures) (λ m e. grind arith)

pub lifted-requires-3 : goal.lifted-requires-3
lifted-requires-3 c =
    let fit1 = tried_fit statement_calm.0 c.requires c.lifted.ensures (reads_clear c.clear.ensures.text c.clear.ensures.start c.instruction-read.ensures) c.in-Err-Miss.is c.in-Err-Miss.field-0-is in
    let fit2 = tried_fit statement_calm.1 fit1 c.lifted-2.ensures (reads_clear c.clear.ensures.text c.clear.ensures.start c.variable_definition-read.ensures) c.in-Err-Miss-lifted.is c.in-Err-Miss-lifted.field-0-is in
    fit_lifts fit2

pub returns-in_default-lifted-2 : goal.returns-in_default-lifted-2
returns-in_default-lifted-2 c =
    tried_next statement_calm.0 c.requires c.lifted.ensures (reads_clear c.clear.ensures.text c.clear.ensures.start c.instruction-read.ensures) c.in-Err-Miss.is c.in-Err-Miss.field-0-is λ fit1.
    tried_next statement_calm.1 fit1 c.lifted-2.ensures (reads_clear c.clear.ensures.text c.clear.ensures.start c.variable_definition-read.ensures) c.in-Err-Miss-lifted.is c.in-Err-Miss-lifted.field-0-is λ fit2.
    tried_first statement_calm.2 fit2 c.in_default-lifted-2.ensures (reads_clear c.clear.ensures.text c.clear.ensures.start c.const_definition-read.ensures) (λ m e. grind arith)

pub returns-in_default-lifted-2-2 : goal.returns-in_default-lifted-2-2
returns-in_default-lifted-2-2 c =
    tried_next statement_calm.0 c.requires c.lifted.ensures (reads_clear c.clear.ensures.text c.clear.ensures.start c.instruction-read.ensures) c.in-Err-Miss.is c.in-Err-Miss.field-0-is λ fit1.
    tried_next statement_calm.1 fit1 c.lifted-2.ensures (reads_clear c.clear.ensures.text c.clear.ensures.start c.variable_definition-read.ensures) c.in-Err-Miss-lifted.is c.in-Err-Miss-lifted.field-0-is λ fit2.
    tried_first statement_calm.2 fit2 c.lifted-3.ensures (reads_clear c.clear.ensures.text c.clear.ensures.start c.const_definition-read.ensures) (λ m e. grind arith)

pub lifted-requires-4 : goal.lifted-requires-4
lifted-requires-4 c =
    let fit1 = tried_fit statement_calm.0 c.requires c.lifted.ensures (reads_clear c.clear.ensures.text c.clear.ensures.start c.instruction-read.ensures) c.in-Err-Miss.is c.in-Err-Miss.field-0-is in
    let fit2 = tried_fit statement_calm.1 fit1 c.lifted-2.ensures (reads_clear c.clear.ensures.text c.clear.ensures.start c.variable_definition-read.ensures) c.in-Err-Miss-lifted.is c.in-Err-Miss-lifted.field-0-is in
    let fit3 = tried_fit statement_calm.2 fit2 c.lifted-3.ensures (reads_clear c.clear.ensures.text c.clear.ensures.start c.const_definition-read.ensures) c.in-Err-Miss-lifted-2.is c.in-Err-Miss-lifted-2.field-0-is in
    fit_lifts fit3

pub returns-in_default-lifted-3 : goal.returns-in_default-lifted-3
returns-in_default-lifted-3 c =
    tried_next statement_calm.0 c.requires c.lifted.ensures (reads_clear c.clear.ensures.text c.clear.ensures.start c.instruction-read.ensures) c.in-Err-Miss.is c.in-Err-Miss.field-0-is λ fit1.
    tried_next statement_calm.1 fit1 c.lifted-2.ensures (reads_clear c.clear.ensures.text c.clear.ensures.start c.variable_definition-read.ensures) c.in-Err-Miss-lifted.is c.in-Err-Miss-lifted.field-0-is λ fit2.
    tried_next statement_calm.2 fit2 c.lifted-3.ensures (reads_clear c.clear.ensures.text c.clear.ensures.start c.const_definition-read.ensures) c.in-Err-Miss-lifted-2.is c.in-Err-Miss-lifted-2.field-0-is λ fit3.
    tried_first statement_calm.3 fit3 c.in_default-lifted-3.ensures (reads_clear c.clear.ensures.text c.clear.ensures.start c.pc_definition-read.ensures) (λ m e. grind arith)

pub returns-in_default-lifted-3-2 : goal.returns-in_default-lifted-3-2
returns-in_default-lifted-3-2 c =
    tried_next statement_calm.0 c.requires c.lifted.ensures (reads_clear c.clear.ensures.text c.clear.ensures.start c.instruction-read.ensures) c.in-Err-Miss.is c.in-Err-Miss.field-0-is λ fit1.
    tried_next statement_calm.1 fit1 c.lifted-2.ensures (reads_clear c.clear.ensures.text c.clear.ensures.start c.variable_definition-read.ensures) c.in-Err-Miss-lifted.is c.in-Err-Miss-lifted.field-0-is λ fit2.
    tried_next statement_calm.2 fit2 c.lifted-3.ensures (reads_clear c.clear.ensures.text c.clear.ensures.start c.const_definition-read.ensures) c.in-Err-Miss-lifted-2.is c.in-Err-Miss-lifted-2.field-0-is λ fit3.
    tried_first statement_calm.3 fit3 c.lifted-4.ensures (reads_clear c.clear.ensures.text c.clear.ensures.start c.pc_definition-read.ensures) (λ m e. grind arith)

pub definition-requires : goal.definition-requires
definition-requires c =
    let fit1 = tried_fit statement_calm.0 c.requires c.lifted.ensures (reads_clear c.clear.ensures.text c.clear.ensures.start c.instruction-read.ensures) c.in-Err-Miss.is c.in-Err-Miss.field-0-is in
    let fit2 = tried_fit statement_calm.1 fit1 c.lifted-2.ensures (reads_clear c.clear.ensures.text c.clear.ensures.start c.variable_definition-read.ensures) c.in-Err-Miss-lifted.is c.in-Err-Miss-lifted.field-0-is in
    let fit3 = tried_fit statement_calm.2 fit2 c.lifted-3.ensures (reads_clear c.clear.ensures.text c.clear.ensures.start c.const_definition-read.ensures) c.in-Err-Miss-lifted-2.is c.in-Err-Miss-lifted-2.field-0-is in
    fit_told c.clear.ensures.text c.clear.ensures.start (tried_fit statement_calm.3 fit3 c.lifted-4.ensures (reads_clear c.clear.ensures.text c.clear.ensures.start c.pc_definition-read.ensures) c.in-Err-Miss-lifted-3.is c.in-Err-Miss-lifted-3.field-0-is)

pub returns : goal.returns
returns c =
    tried_next statement_calm.0 c.requires c.lifted.ensures (reads_clear c.clear.ensures.text c.clear.ensures.start c.instruction-read.ensures) c.in-Err-Miss.is c.in-Err-Miss.field-0-is λ fit1.
    tried_next statement_calm.1 fit1 c.lifted-2.ensures (reads_clear c.clear.ensures.text c.clear.ensures.start c.variable_definition-read.ensures) c.in-Err-Miss-lifted.is c.in-Err-Miss-lifted.field-0-is λ fit2.
    tried_next statement_calm.2 fit2 c.lifted-3.ensures (reads_clear c.clear.ensures.text c.clear.ensures.start c.const_definition-read.ensures) c.in-Err-Miss-lifted-2.is c.in-Err-Miss-lifted-2.field-0-is λ fit3.
    tried_next statement_calm.3 fit3 c.lifted-4.ensures (reads_clear c.clear.ensures.text c.clear.ensures.start c.pc_definition-read.ensures) c.in-Err-Miss-lifted-3.is c.in-Err-Miss-lifted-3.field-0-is λ fit4. tells_told c.clear.ensures.text c.clear.ensures.start c.definition.ensures
