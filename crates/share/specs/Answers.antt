-- What the answers of the calls say in document 02's numbers.
use Rattle.std.specs.Prelude.{List, ℕ, get_or, count_by, Result, Ok, Err, None}
use Rattle.std.specs.Option.{is_some, unwrap_or}
use Rattle.reading.specs.Table.{Answer, answered, refused}
use Rattle.rows.specs.Answers.{number_of, gives_of}
use Rattle.share.specs.Shares.{Shares}
use Rattle.share.specs.Words.{Text, Told}
use Rattle.share.specs.declared.SharesFound.{SharesFound}
use Rattle.share.specs.declared.SharesError.{SharesError}
use Rattle.share.specs.declared.SharesError.TheVariants.{TooManyTexts, WrongText}
use Rattle.share.specs.declared.TextWords.{TextWords}
use Rattle.share.specs.declared.WordsError.{WordsError}
use Rattle.share.specs.declared.WordsError.TheVariants.{Tops, WrongText as wrong_text}

abbrev pub shares_number : SharesError → ℕ
shares_number (TooManyTexts n) = 27
shares_number (WrongText i) = 28

abbrev pub shares_gives : SharesError → ℕ
shares_gives (TooManyTexts n) = n
shares_gives (WrongText i) = i

-- what `tops` refuses is refused as it is. 28 as for a list that has this text alone, so it gives 0
abbrev pub words_number : WordsError → ℕ
words_number (Tops e) = number_of e
words_number wrong_text = 28

abbrev pub words_gives : WordsError → ℕ
words_gives (Tops e) = gives_of e
words_gives wrong_text = 0

abbrev pub found_shares : SharesFound → Shares
found_shares x =
    record {
      numerator = x.pooled.numerator;
      denominator = x.pooled.denominator;
      count = count_by is_some x.largest;
      first = unwrap_or (get_or x.largest 0 None) 0;
      second = unwrap_or (get_or x.largest 1 None) 0;
      third = unwrap_or (get_or x.largest 2 None) 0;
    }

abbrev pub told : Result SharesFound SharesError → Answer Shares
told (Ok x) = answered (found_shares x)
told (Err e) = refused (shares_number e) (shares_gives e)

abbrev pub told_text : Result TextWords WordsError → Answer Text
told_text (Ok x) = answered (record { trivia = x.trivia; length = x.length })
told_text (Err e) = refused (words_number e) (words_gives e)

abbrev pub told_words : Result TextWords WordsError → List ℕ → Told
told_words a t = record { answer = told_text a; table = t }
