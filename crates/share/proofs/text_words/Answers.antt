-- A case for each answer. What `tops` lists are rows of the table, so their trivia can be read.
use Rattle.std.proofs.lemmas.Result.{err_from_is_err_and}
use Rattle.share.proofs.Words.{tops_inside, front_long, front_rows, tops_refused, too_long, too_much, words_known}
use Rattle.share.proofs.text_words.Goals as goal

pub returns-in_err-n : goal.returns-in_err-n
returns-in_err-n c =
    let p = err_from_is_err_and c.from_residual.result c.from_residual.ensures.1 in
    rw (p.1, p.2) (tops_refused _ _ _ _ _ _ _ c.in_err-n.ensures)

pub returns-then-length-gt-MAX_TEXT : goal.returns-then-length-gt-MAX_TEXT
returns-then-length-gt-MAX_TEXT c = too_long _ _ _ _ _ _ c.in_ok-n.ensures c.if-length-gt-MAX_TEXT.true

pub slice_bounds-top_trivia-end : goal.slice_bounds-top_trivia-end
slice_bounds-top_trivia-end c = (tops_inside _ _ _ _ _ c.in_ok-n.ensures).many

pub slice_bounds-top_trivia-end-2 : goal.slice_bounds-top_trivia-end-2
slice_bounds-top_trivia-end-2 c = front_long (tops_inside _ _ _ _ _ c.in_ok-n.ensures)

pub top_trivia-trivia-requires : goal.top_trivia-trivia-requires
top_trivia-trivia-requires c = (front_rows (tops_inside _ _ _ _ _ c.in_ok-n.ensures), c.if-length-gt-MAX_TEXT.false)

pub returns-then-length-trivia : goal.returns-then-length-trivia
returns-then-length-trivia c = too_much _ _ _ _ _ _ c.in_ok-n.ensures _ c.top_trivia-trivia.ensures c.if-length-trivia.true

pub returns : goal.returns
returns c =
    words_known _ _ _ _ _ _ c.in_ok-n.ensures _ c.top_trivia-trivia.ensures c.if-length-gt-MAX_TEXT.false c.if-length-trivia.false
