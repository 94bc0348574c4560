-- The texts that document 01 marks, and their readings.
use Rattle.std.specs.Prelude.{true, false, List, [], ◌∷◌}
use Rattle.reading.specs.Byte.{bytes}
use Rattle.reading.specs.Case.{Case, case, r, e, w}

abbrev pub texts : List Case
texts =
    case (bytes "")
    (r 8 1 0 0 0 0 1 ∷ [])
    (w 0 false [] [] 0)
    ∷ case (bytes "lda #1\n")
    (r 46 1 0 0 3 30 1 ∷ r 41 1 3 4 5 35 1 ∷ r 49 1 5 5 5 2 1 ∷ r 50 1 5 5 6 0 1 ∷ r 39 3 5 5 6 0 1 ∷ r 34 4 5 5 6 0 1 ∷ r 31 6 3 4 6 2 1 ∷
    r 14 8 0 0 6 0 1 ∷ r 8 1 6 7 7 0 2 ∷ [])
    (w 0 false [] [] 0)
    ∷ case (bytes ")")
    (r 8 1 0 0 1 0 1 ∷ [])
    (w 0 false [] [] 0)
    ∷ case (bytes "nop\rnop")
    (r 46 1 0 0 3 34 1 ∷ r 14 2 0 0 3 0 1 ∷ r 8 1 3 3 7 0 1 ∷ [])
    (w 0 false [] [] 0)
    ∷ case (bytes "/* abc")
    (r 8 1 0 6 6 0 1 ∷ [])
    (w 0 true (e 1 6 6 ∷ []) [] 0)
    ∷ case (bytes "{/* abc")
    (r 41 1 0 0 1 123 1 ∷ r 41 1 0 0 1 125 1 ∷ r 30 3 0 0 1 0 1 ∷ r 3 4 0 0 1 1 1 ∷ r 8 1 1 7 7 0 1 ∷ [])
    (w 1 true (e 1 7 7 ∷ e 1 7 7 ∷ []) [] 1)
    ∷ case (bytes ".text \"{/*}\"")
    (r 9 1 0 0 12 0 1 ∷ r 8 1 12 12 12 0 1 ∷ [])
    (w 0 false (e 1 12 12 ∷ []) [] 0)
    ∷ case (bytes "asl\nrow(1)")
    (r 46 1 0 0 3 3 1 ∷ r 43 1 3 4 7 0 2 ∷ r 41 1 7 7 8 40 2 ∷ r 49 1 8 8 8 2 2 ∷ r 50 1 8 8 9 0 2 ∷ r 39 3 8 8 9 0 2 ∷ r 34 4 8 8 9 0 2 ∷
    r 41 1 9 9 10 41 2 ∷ r 37 8 3 3 10 0 1 ∷ r 34 9 3 3 10 0 1 ∷ r 31 10 3 3 10 1 1 ∷ r 14 12 0 0 10 0 1 ∷ r 8 1 10 10 10 0 2 ∷ [])
    (w 0 false [] [] 1)
    ∷ case (bytes "lda (1)+2")
    (r 46 1 0 0 3 30 1 ∷ r 41 1 3 4 5 40 1 ∷ r 49 1 5 5 5 2 1 ∷ r 50 1 5 5 6 0 1 ∷ r 39 3 5 5 6 0 1 ∷ r 34 4 5 5 6 0 1 ∷ r 41 1 6 6 7 41 1 ∷
    r 31 7 3 4 7 5 1 ∷ r 14 9 0 0 7 0 1 ∷ r 9 1 7 7 9 0 1 ∷ r 8 1 9 9 9 0 1 ∷ [])
    (w 0 false (e 2 7 9 ∷ []) [] 1)
    ∷ case (bytes "include(1)")
    (r 46 1 0 0 3 25 1 ∷ r 43 1 3 3 7 0 1 ∷ r 41 1 7 7 8 40 1 ∷ r 49 1 8 8 8 2 1 ∷ r 50 1 8 8 9 0 1 ∷ r 39 3 8 8 9 0 1 ∷ r 34 4 8 8 9 0 1 ∷
    r 41 1 9 9 10 41 1 ∷ r 37 8 3 3 10 0 1 ∷ r 34 9 3 3 10 0 1 ∷ r 31 10 3 3 10 1 1 ∷ r 14 12 0 0 10 0 1 ∷ r 8 1 10 10 10 0 1 ∷ [])
    (w 0 false [] [] 1)
    ∷ case (bytes "lda -(3)")
    (r 46 1 0 0 3 30 1 ∷ r 44 1 4 4 5 0 1 ∷ r 38 2 4 4 5 0 1 ∷ r 34 3 3 4 5 0 1 ∷ r 31 4 3 4 5 1 1 ∷ r 14 6 0 0 5 0 1 ∷ r 9 1 5 5 7 0 1 ∷
    r 8 1 7 7 8 0 1 ∷ [])
    (w 0 false (e 2 5 7 ∷ []) [] 0)
    ∷ case (bytes "{{}}")
    (r 41 1 0 0 1 123 1 ∷ r 41 1 1 1 2 123 1 ∷ r 41 1 2 2 3 125 1 ∷ r 30 3 1 1 3 0 1 ∷ r 3 4 1 1 3 1 1 ∷ r 41 1 3 3 4 125 1 ∷ r 30 7 0 0 4 0 1 ∷
    r 3 8 0 0 4 2 1 ∷ r 8 1 4 4 4 0 1 ∷ [])
    (w 2 false [] [] 2)
    ∷ []

-- Of request F-1: the name of a call across a line end is a line below the call, and a supplied brace has the line of the one that it copies.
abbrev pub line_texts : List Case
line_texts =
    case (bytes "lda \nf()")
    (r 46 1 0 0 3 30 1 ∷ r 43 1 4 5 6 0 2 ∷ r 41 1 6 6 7 40 2 ∷ r 41 1 7 7 8 41 2 ∷ r 37 4 4 4 8 0 1 ∷ r 34 5 3 4 8 0 1 ∷ r 31 6 3 4 8 1 1 ∷
    r 14 8 0 0 8 0 1 ∷ r 8 1 8 8 8 0 2 ∷ [])
    (w 0 false [] [] 1)
    ∷ case (bytes "{\nnop\n{")
    (r 41 1 0 0 1 123 1 ∷ r 46 1 1 2 5 34 2 ∷ r 14 2 1 2 5 0 2 ∷ r 41 1 5 6 7 123 3 ∷ r 41 1 5 6 7 125 3 ∷ r 30 3 5 6 7 0 3 ∷
    r 3 4 5 6 7 1 3 ∷ r 41 1 0 0 1 125 1 ∷ r 30 9 0 0 7 0 1 ∷ r 3 10 0 0 7 2 1 ∷ r 8 1 7 7 7 0 3 ∷ [])
    (w 2 false (e 5 7 7 ∷ e 5 7 7 ∷ []) [] 2)
    ∷ []
