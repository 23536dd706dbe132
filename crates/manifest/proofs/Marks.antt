-- Names and marks, token by token. Assumes nothing.
use Rattle.std.proofs.Common.{◌≡◌, ℕ, ◌+◌, ◌≤◌, Bool, true, false, ◌||◌, List, [], ◌∷◌, length, drop, Some, None, Option, sym, refl, ap, ◌∙◌, arith}
use Rattle.std.proofs.lemmas.Bool.{cond-true, cond-false}
use Rattle.std.proofs.lemmas.List.{length-map, length-drop}
use Rattle.terms.specs.Lists.{empty, some}
use Rattle.words.specs.declared.spelling.Word.{Word}
use Rattle.words.specs.declared.token.Token.{Token}
use Rattle.words.specs.declared.token.Token.TheVariants as token
use Rattle.words.specs.Shown.{shown}
use Rattle.words.specs.Spelling.{name_at}
use Rattle.words.specs.Tokens.{Lexeme, named, tokens, front_token}
use Rattle.words.specs.Runs.{front}
use Rattle.words.proofs.Lexemes.{tokens_read, no_token, tokens_few}
use Rattle.words.proofs.Spans.{front-short}
use Rattle.manifest.specs.declared.group.Group.{Group}
use Rattle.manifest.proofs.Bound.{empty-some}
use Rattle.manifest.specs.Building.{is_named, is_bar, is_bars, spelled, names_of, marks_of, following, behind, Inputs, inputs_of, with_rule, with_colon, build_of, rule_of}
use Rattle.manifest.specs.Groups.{is_long, rest, group_names, Sums, Gathered}

-- the tokens from an offset on, by the token that was read there
pub token-is : (xs : List ℕ) (at next : ℕ) (t : Token) → shown xs t ≡ (front_token (drop at xs)).0 → next ≡ at + (front_token (drop at xs)).1 → tokens (drop at xs) ≡ rest xs t next
token-is xs at next token.Colon e f = tokens_read xs at next (shown xs token.Colon) e f
token-is xs at next token.Bar e f = tokens_read xs at next (shown xs token.Bar) e f
token-is xs at next token.Bars e f = tokens_read xs at next (shown xs token.Bars) e f
token-is xs at next token.Wrong e f = tokens_read xs at next (shown xs token.Wrong) e f
token-is xs at next (token.Word w) e f = tokens_read xs at next (shown xs (token.Word w)) e f
token-is xs at next token.End e f = no_token (drop at xs) e

-- a token that is no word
abbrev pub IsMark : Token → Type 0
IsMark token.Colon = Unit {0}
IsMark token.Bar = Unit {0}
IsMark token.Bars = Unit {0}
IsMark token.Wrong = Unit {0}
IsMark (token.Word w) = ⊥
IsMark token.End = Unit {0}

-- stands behind no word
pub mark_names : (xs : List ℕ) (t : Token) (next : ℕ) → IsMark t → names_of (rest xs t next) ≡ []
mark_names xs token.Colon next m = refl
mark_names xs token.Bar next m = refl
mark_names xs token.Bars next m = refl
mark_names xs token.Wrong next m = refl
mark_names xs (token.Word w) next m = absurd m
mark_names xs token.End next m = refl

pub mark_marks : (xs : List ℕ) (t : Token) (next : ℕ) → IsMark t → marks_of (rest xs t next) ≡ rest xs t next
mark_marks xs token.Colon next m = refl
mark_marks xs token.Bar next m = refl
mark_marks xs token.Bars next m = refl
mark_marks xs token.Wrong next m = refl
mark_marks xs (token.Word w) next m = absurd m
mark_marks xs token.End next m = refl

pub is_mark : (t : Token) → ((w : Word) → t ≡ token.Word w → ⊥) → IsMark t
is_mark token.Colon n = tt
is_mark token.Bar n = tt
is_mark token.Bars n = tt
is_mark token.Wrong n = tt
is_mark (token.Word w) n = n w refl
is_mark token.End n = tt

-- what stands where no name does is no word
pub no_word : (xs : List ℕ) (t : Token) (next : ℕ) → names_of (rest xs t next) ≡ [] → IsMark t
no_word xs token.Colon next e = tt
no_word xs token.Bar next e = tt
no_word xs token.Bars next e = tt
no_word xs token.Wrong next e = tt
no_word xs (token.Word w) next e = absurd (omega (arith, ap length e))
no_word xs token.End next e = tt

-- a word that was read stands first
pub word_first : (xs : List ℕ) (at next : ℕ) (t : Token) (w : Word) → shown xs t ≡ (front_token (drop at xs)).0 → next ≡ at + (front_token (drop at xs)).1 → t ≡ token.Word w →
    tokens (drop at xs) ≡ named (name_at xs w.place) ∷ tokens (drop next xs)
word_first xs at next t w e f g = token-is xs at next t e f ∙ ap (λ u. rest xs u next) g

-- Gathering words ----------------------------------------------------------------------------------------------------------

-- what is left of the words gives the sums
pub record Turn (xs : List ℕ) (at n : ℕ) (over : Bool) (left : List Lexeme) : Type 0 where
  pub count : n + length (names_of left) ≡ length (names_of (tokens (drop at xs)))
  pub long : (over || some is_long (names_of left)) ≡ some is_long (names_of (tokens (drop at xs)))
  pub marks : marks_of left ≡ marks_of (tokens (drop at xs))
  pub few : n + length (names_of left) ≤ length xs

-- no word was taken yet
pub turn_first : (xs : List ℕ) (at : ℕ) (left : List Lexeme) → left ≡ tokens (drop at xs) → Turn xs at 0 false left
turn_first xs at left e =
    let T = tokens (drop at xs) in
    let n = ap (λ ts. length (names_of ts)) e in
    record {
      count = omega (arith, n);
      long = ap (λ ts. some is_long (names_of ts)) e;
      marks = ap marks_of e;
      few = omega (arith, n, length-map (front is_named T) spelled, front-short is_named T, tokens_few (drop at xs), length-drop at xs);
    }

or_none : (x : Bool) → (x || false) ≡ x
or_none true = refl
or_none false = refl

pub turn_none : (xs : List ℕ) (at next n : ℕ) (long : Bool) (t : Token) (left : List Lexeme) → left ≡ rest xs t next → names_of left ≡ [] → Turn xs at n long left →
    Gathered xs at (record { at = at; count = n; long = long; mark = t; next = next })
turn_none xs at next n long t left e none u =
    let m = no_word xs t next (sym (ap names_of e) ∙ none) in
    record {
      begins = refl;
      sums = record {
        count = omega (arith, u.count, ap length none);
        long = sym (or_none long) ∙ ap (λ ns. long || some is_long ns) (sym none) ∙ u.long;
      };
      marks = sym (mark_marks xs t next m) ∙ ap marks_of (sym e) ∙ u.marks;
    }

-- Behind marks -------------------------------------------------------------------------------------------------------------

module _ (xs : List ℕ) (next : ℕ) where
  pub at_end : (t : Token) → t ≡ token.End → empty (rest xs t next) ≡ true
  at_end t e = ap (λ u. empty (rest xs u next)) e

  pub not_end : (t : Token) → (t ≡ token.End → ⊥) → empty (rest xs t next) ≡ false
  not_end token.Colon n = refl
  not_end token.Bar n = refl
  not_end token.Bars n = refl
  not_end token.Wrong n = refl
  not_end (token.Word w) n = refl
  not_end token.End n = absurd (n refl)

-- What lines say -----------------------------------------------------------------------------------------------------------

module _ (T A B C : List Lexeme) (P I O : List (List ℕ)) (p : P ≡ names_of T) (a : A ≡ marks_of T) (i : I ≡ following is_bar A) (b : B ≡ behind is_bar A) (o : O ≡ following is_bars B) (c : C ≡ behind is_bars B) where
  over : behind is_bars (behind is_bar (marks_of T)) ≡ C
  over = sym (c ∙ ap (behind is_bars) (b ∙ ap (behind is_bar) a))

  pub inputs-some : empty C ≡ true → Some (record { plain = P; implicit = I; order = O }) ≡ inputs_of T
  inputs-some e =
      let F : List (List ℕ) → List (List ℕ) → List (List ℕ) → Option Inputs = λ x y z. Some (record { plain = x; implicit = y; order = z }) in
      ap (λ x. F x I O) p ∙ ap (λ y. F (names_of T) y O) (i ∙ ap (following is_bar) a) ∙ ap (F (names_of T) (following is_bar (marks_of T))) (o ∙ ap (following is_bars) (b ∙ ap (behind is_bar) a)) ∙
      sym (cond-true (empty (behind is_bars (behind is_bar (marks_of T)))) _ None (ap empty over ∙ e))

  pub inputs-none : empty C ≡ false → None ≡ inputs_of T
  inputs-none e = sym (cond-false (empty (behind is_bars (behind is_bar (marks_of T)))) _ None (ap empty over ∙ e))

module _ (xs : List ℕ) (next : ℕ) (os : List (List ℕ)) where
  pub no_colon : (t : Token) → (t ≡ token.Colon → ⊥) → None ≡ with_colon os (rest xs t next)
  no_colon token.Colon n = absurd (n refl)
  no_colon token.Bar n = refl
  no_colon token.Bars n = refl
  no_colon token.Wrong n = refl
  no_colon (token.Word w) n = refl
  no_colon token.End n = refl

  pub past-colon : (t : Token) → t ≡ token.Colon → empty os ≡ false → with_colon os (rest xs t next) ≡ with_rule os (tokens (drop next xs))
  past-colon t e f = ap (λ u. with_colon os (rest xs u next)) e ∙ cond-false (empty os) None (with_rule os (tokens (drop next xs))) f

  pub no_rule : (t : Token) → IsMark t → None ≡ with_rule os (rest xs t next)
  no_rule token.Colon m = refl
  no_rule token.Bar m = refl
  no_rule token.Bars m = refl
  no_rule token.Wrong m = refl
  no_rule (token.Word w) m = absurd m
  no_rule token.End m = refl

-- what a group that begins a line says
pub build_as : (xs : List ℕ) (at : ℕ) (g : Group) → Gathered xs at g → build_of (tokens (drop at xs)) ≡ with_colon (group_names xs g) (rest xs g.mark g.next)
build_as xs at g e = ap (λ (k : ℕ). with_colon (names_of (tokens (drop k xs))) (marks_of (tokens (drop at xs)))) (sym e.begins) ∙ ap (with_colon (group_names xs g)) (sym e.marks)

-- and whether it has words
pub some_words : (xs : List ℕ) (g : Group) → Sums xs g → (g.count ≡ 0 → ⊥) → empty (group_names xs g) ≡ false
some_words xs g s n = empty-some (group_names xs g) (λ z. n (s.count ∙ z))

-- One word ------------------------------------------------------------------------------------------------------------------

pub no_name : (xs : List ℕ) (t : Token) (next : ℕ) → IsMark t → None ≡ rule_of (rest xs t next)
no_name xs token.Colon next m = refl
no_name xs token.Bar next m = refl
no_name xs token.Bars next m = refl
no_name xs token.Wrong next m = refl
no_name xs (token.Word w) next m = absurd m
no_name xs token.End next m = refl

pub one_name : (n : List ℕ) (T U : List Lexeme) → T ≡ named n ∷ U → empty U ≡ true → Some n ≡ rule_of T
one_name n T U e f = sym (ap rule_of e ∙ cond-true (empty U) (Some n) None f)

pub more-names : (n : List ℕ) (T U : List Lexeme) → T ≡ named n ∷ U → empty U ≡ false → None ≡ rule_of T
more-names n T U e f = sym (ap rule_of e ∙ cond-false (empty U) (Some n) None f)
