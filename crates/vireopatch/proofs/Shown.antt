-- What a call's answer is in numbers is what its definition exports: one law for each call, of an answer and of a refusal.
use mathlib.Core.List.{List, [], ◌∷◌}
use mathlib.Core.Option.{Option}
use mathlib.Core.Path.{◌≡◌, refl, ap, sym, ◌∙◌}
use Prim.Native.Nat.{ℕ}
use Rattle.std.specs.Prelude.{get_or, count_by, Result, Ok, Err, None}
use Rattle.std.specs.Option.{is_some, unwrap_or}
use Rattle.std.specs.Result.{result_unwrap_or}
use Rattle.reading.specs.Outcome.{Call, outcome}
use Rattle.reading.specs.Number.{Base, number_value}
use Rattle.parser.specs.Answers.{Answer as Read, Meets}
use Rattle.parser.specs.Refusal.{number_of as read_number, gives_of as read_gives}
use Rattle.parser.specs.Seen.{answer_seen}
use Rattle.parser.specs.declared.Reading.{Reading}
use Rattle.number.specs.Answers.{base_of, base_told, refusal_number, told as value_told}
use Rattle.number.specs.declared.NumberType.{NumberType}
use Rattle.number.specs.declared.UnknownType.{UnknownType}
use Rattle.number.specs.declared.ValueError.{ValueError}
use Rattle.trivia.specs.Answers.{listed, told as items_told}
use Rattle.trivia.specs.Refusal.{number_of as items_number, gives_of as items_gives}
use Rattle.trivia.specs.declared.error.ItemsError.{ItemsError}
use Rattle.table.specs.Answers.{told as walk_told}
use Rattle.table.specs.declared.Subtree.{Subtree}
use Rattle.table.specs.declared.NoSubtree.{NoSubtree}
use Rattle.share.specs.Answers.{told as shares_told, told_words, shares_number, shares_gives, words_number, words_gives}
use Rattle.share.specs.declared.SharesFound.{SharesFound}
use Rattle.share.specs.declared.SharesError.{SharesError}
use Rattle.share.specs.declared.TextWords.{TextWords}
use Rattle.share.specs.declared.WordsError.{WordsError}
use Rattle.vireopatch.specs.Seen.{code_of, given_of, Seen, seen, exported, base_numbered, value_in, seen_value, exported_value, seen_items, exported_items, SeenWalk, seen_walk, exported_walk, SeenShares, seen_shares, exported_shares, SeenWords, seen_words, exported_words}
use Rattle.vireopatch.specs.Told.{told}

-- what is told of equal answers is equal, and so is what stands behind the pointers: the answer, or `none` of a refusal
pub same_numbers : {T E : Type 0} (number gives : E → ℕ) (none : T) (a b : Result T E) → a ≡ b
    → (told number gives a ≡ told number gives b) × (result_unwrap_or a none ≡ result_unwrap_or b none)
same_numbers number gives none a b e = (ap (told number gives) e, ap (λ r. result_unwrap_or r none) e)

-- Reading a text ------------------------------------------------------------

abbrev read_seen : List ℕ → List ℕ → List ℕ → Read → Reading → Seen
read_seen t e q r x =
    seen (code_of (told read_number read_gives r)) t e q x.rows x.errors x.requests x.scope x.swallow (given_of (told read_number read_gives r))

-- a refusal has no records, and the end state is the starting state
abbrev read_or : Call → Read → Reading
read_or c r = result_unwrap_or r (record { rows = 0; errors = 0; requests = 0; scope = c.scope; swallow = c.swallow })

read_numbers_shown : (c : Call) (t e q : List ℕ) (r : Read) → read_seen t e q r (read_or c r) ≡ answer_seen c t e q r
unfolding exported
read_numbers_shown c t e q (Ok x) = refl
read_numbers_shown c t e q (Err n) = refl

pub read_shown : {c : Call} {t e q : List ℕ} {r : Read} → Meets c t e q r → read_seen t e q r (read_or c r) ≡ exported (outcome c)
read_shown {c} {t} {e} {q} {r} m = read_numbers_shown c t e q r ∙ ap exported m.outcome_is

-- Number text to value ------------------------------------------------------

pub no_type_shown : (t : Result NumberType UnknownType) (e : UnknownType) (n : ℕ) (s : List ℕ) → base_told t ≡ base_numbered n → t ≡ Err e → seen_value 10 0 ≡ exported_value (value_in (base_numbered n) s)
unfolding exported_value value_in
no_type_shown t e n s h i = ap (λ (o : Option Base). exported_value (value_in o s)) (sym (ap base_told i) ∙ h)

value_numbers_shown : (v : Result ℕ ValueError) → seen_value (code_of (told refusal_number (λ _. 0) v)) (result_unwrap_or v 0) ≡ exported_value (value_told v)
unfolding exported_value
value_numbers_shown (Ok n) = refl
value_numbers_shown (Err e) = refl

pub value_shown : (t : Result NumberType UnknownType) (ty : NumberType) (n : ℕ) (s : List ℕ) (v : Result ℕ ValueError) → base_told t ≡ base_numbered n → t ≡ Ok ty
    → value_told v ≡ number_value (base_of ty) s → seen_value (code_of (told refusal_number (λ _. 0) v)) (result_unwrap_or v 0) ≡ exported_value (value_in (base_numbered n) s)
unfolding value_in
value_shown t ty n s v h e w =
    value_numbers_shown v ∙ (ap exported_value w ∙ ap (λ (o : Option Base). exported_value (value_in o s)) (sym (ap base_told e) ∙ h))

-- The items of a trivia run -------------------------------------------------

pub items_shown : (r : Result ℕ ItemsError) (t : List ℕ)
    → seen_items (code_of (told items_number items_gives r)) t (result_unwrap_or r 0) (given_of (told items_number items_gives r)) ≡ exported_items (listed (items_told r) t)
unfolding exported_items
items_shown (Ok n) t = refl
items_shown (Err e) t = refl

-- Walking a row table -------------------------------------------------------

abbrev walk_seen : Result Subtree NoSubtree → Subtree → SeenWalk
walk_seen r x = seen_walk (code_of (told (λ _. 13) (λ e. e.0) r)) x.root.0 x.before (given_of (told (λ _. 13) (λ e. e.0) r))

pub walk_shown : (r : Result Subtree NoSubtree) → walk_seen r (result_unwrap_or r (record { root = record { 0 = 0 }; before = 0 })) ≡ exported_walk (walk_told r)
unfolding exported_walk
walk_shown (Ok x) = refl
walk_shown (Err e) = refl

-- Shares of trivia ----------------------------------------------------------

abbrev shares_seen : Result SharesFound SharesError → SharesFound → SeenShares
shares_seen r x =
    seen_shares (code_of (told shares_number shares_gives r)) x.pooled.numerator x.pooled.denominator (count_by is_some x.largest)
    (unwrap_or (get_or x.largest 0 None) 0)
    (unwrap_or (get_or x.largest 1 None) 0)
    (unwrap_or (get_or x.largest 2 None) 0)
    (given_of (told shares_number shares_gives r))

pub shares_shown : (r : Result SharesFound SharesError)
    → shares_seen r (result_unwrap_or r (record { pooled = record { numerator = 0; denominator = 0 }; largest = None ∷ None ∷ None ∷ [] })) ≡ exported_shares (shares_told r)
unfolding exported_shares
shares_shown (Ok x) = refl
shares_shown (Err e) = refl

-- The two words of a text ---------------------------------------------------

abbrev words_seen : List ℕ → Result TextWords WordsError → TextWords → SeenWords
words_seen t r x = seen_words (code_of (told words_number words_gives r)) t x.trivia x.length (given_of (told words_number words_gives r))

pub words_shown : (t : List ℕ) (r : Result TextWords WordsError) → words_seen t r (result_unwrap_or r (record { trivia = 0; length = 0 })) ≡ exported_words (told_words r t)
unfolding exported_words
words_shown t (Ok x) = refl
words_shown t (Err e) = refl
