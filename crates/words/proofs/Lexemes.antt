-- The tokens of a line, one by one. Assumes nothing.
use Rattle.std.proofs.Common.{◌≡◌, ℕ, zero, suc, ◌+◌, ◌≤◌, Bool, true, false, cond, eqb, List, [], ◌∷◌, ◌++◌, length, take, drop, Some, None, Option, sym, refl, ap, ◌∙◌, subst, inl, inr, arith}
use Rattle.std.specs.Option.{option_map}
use Rattle.std.proofs.lemmas.List.{take_all, drop-drop, length-drop, length-append}
use Rattle.std.proofs.lemmas.Bool.{cases_Bool, cond-true, cond-false, or_from, ne_eqb}
use Rattle.words.specs.declared.class.Class.TheVariants.{Space}
use Rattle.words.specs.Runs.{is_of, front, beyond}
use Rattle.words.specs.Spelling.{ends, Spelled, nothing, further, spelling, word, name_at}
use Rattle.words.specs.Tokens.{Lexeme, colon, bar, bars, wrong, named, word_begun, bar_begun, struck, begun, tokens_past, tokens, front_token}
use Rattle.words.proofs.Spans.{drop_run}
use Rattle.words.proofs.Spells.{Spells, spells}
use Rattle.words.specs.Steps.{word_of}
use Rattle.words.specs.declared.spelling.Word.{Word}

-- bytes that are passed over
past_is : (n : ℕ) (bs : List ℕ) → tokens_past n bs ≡ tokens (drop n bs)
past_is zero bs = refl
past_is (suc n) [] = refl
past_is (suc n) (b ∷ bs) = past_is n bs

abbrev Taken : Type 0
Taken = List Lexeme × ℕ

-- the tokens are the first one and those behind it
pub tokens-front : (bs : List ℕ) → tokens bs ≡ (front_token bs).0 ++ tokens (drop (front_token bs).1 bs)
tokens-front [] = refl
tokens-front (b ∷ bs) =
    let X : Taken = struck b bs in
    let R : Taken = ((front_token bs).0, suc (front_token bs).1) in
    let Y : Taken = (X.0, suc X.1) in
    elim (eqb b 32) as (λ v. (cond {A = Taken} v ([], 0) X).0 ++ tokens_past (cond {A = Taken} v ([], 0) X).1 bs ≡ (cond {A = Taken} v R Y).0 ++ tokens (drop (cond {A = Taken} v R Y).1 (b ∷ bs))) [
      | true ↦ tokens-front bs
      | false ↦ ap (λ ts. X.0 ++ ts) (past_is X.1 bs)
    ]

-- Behind spaces ---------------------------------------------------------------------------------------------------------

abbrev spaced : ℕ → Taken → Taken
spaced k f = (f.0, k + f.1)

same : (ts us : List Lexeme) (m n : ℕ) → ts ≡ us → m ≡ n → ◌≡◌ {A = Taken} (ts, m) (us, n)
same ts us m n e f = cc

front_spaces : (bs : List ℕ) → front_token bs ≡ spaced (length (front (is_of Space) bs)) (front_token (beyond (is_of Space) bs))
front_spaces [] = same [] [] 0 (0 + 0) refl (omega arith)
front_spaces (b ∷ bs) =
    elim (cases_Bool (eqb b 32)) [
      | inl t ↦ (let ih = front_spaces bs in
          let k = length (front (is_of Space) bs) in
          let F = front_token (beyond (is_of Space) bs) in
          cond-true (eqb b 32) _ _ t ∙ same (front_token bs).0 F.0 (suc (front_token bs).1) (suc k + F.1) (ap (λ (f : Taken). f.0) ih) (omega (arith, ap (λ (f : Taken). f.1) ih)) ∙
          ap (λ (v : Bool). spaced (length (cond v (b ∷ front (is_of Space) bs) [])) (front_token (cond v (beyond (is_of Space) bs) (b ∷ bs)))) (sym t))
      | inr f ↦ (let F = front_token (b ∷ bs) in
          same F.0 F.0 F.1 (0 + F.1) refl (omega arith) ∙
          ap (λ (v : Bool). spaced (length (cond v (b ∷ front (is_of Space) bs) [])) (front_token (cond v (beyond (is_of Space) bs) (b ∷ bs)))) (sym f))
    ]

-- what follows a run does not begin with its class
beyond_head : (bs : List ℕ) (c : ℕ) (cs : List ℕ) → beyond (is_of Space) bs ≡ c ∷ cs → eqb c 32 ≡ false
beyond_head [] c cs e = absurd (let z : ◌≡◌ {A = ℕ} 0 1 = cc in omega arith)
beyond_head (b ∷ bs) c cs e =
    elim (cases_Bool (eqb b 32)) [
      | inl t ↦ beyond_head bs c cs (sym (cond-true (eqb b 32) (beyond (is_of Space) bs) (b ∷ bs) t) ∙ e)
      | inr f ↦ (let g : b ∷ bs ≡ c ∷ cs = sym (cond-false (eqb b 32) (beyond (is_of Space) bs) (b ∷ bs) f) ∙ e in let h : b ≡ c = cc in ap (λ x. eqb x 32) (sym h) ∙ f)
    ]

struck-word : (b : ℕ) (bs : List ℕ) → (b ≡ 58 → ⊥) → (b ≡ 124 → ⊥) → struck b bs ≡ word_begun (word (b ∷ bs)) (length bs)
struck-word b bs m n = cond-false (eqb b 58) _ _ (ne_eqb b 58 m) ∙ cond-false (eqb b 124) _ _ (ne_eqb b 124 n)

-- Words -----------------------------------------------------------------------------------------------------------------

-- a word takes a byte or more where one begins
abbrev Long : Option Spelled → Type 0
Long None = Unit {0}
Long (Some s) = 1 ≤ s.taken

further-long : (sign : Bool) (b : ℕ) (o : Option Spelled) → Long (option_map (further sign b) o)
further-long sign b None = tt
further-long sign b (Some s) = omega arith

word-long : (b : ℕ) (bs : List ℕ) → ends b ≡ false → Long (word (b ∷ bs))
word-long b bs e =
    subst Long (sym (cond-false (ends b) (Some nothing) (option_map (further (eqb b 36) b) (spelling (eqb b 36) bs)) e)) (further-long (eqb b 36) b (spelling (eqb b 36) bs))

-- what a word that was read at an offset is
pub record WordRead (xs : List ℕ) (at start : ℕ) (w : Word) : Type 0 where
  pub begins : w.place.start ≡ start
  pub some : 1 ≤ w.place.length
  pub within : start + w.place.length ≤ length xs
  pub counts : w.length ≡ length (name_at xs w.place)
  pub first : named (name_at xs w.place) ∷ [] ≡ (front_token (drop at xs)).0
  pub next : start + w.place.length ≡ at + (front_token (drop at xs)).1

module _ (xs : List ℕ) (at start : ℕ) (s : start ≡ at + length (front (is_of Space) (drop at xs))) (ys : List ℕ) (p : ys ≡ take (length xs) (drop start xs)) where
  all-is : ys ≡ drop start xs
  all-is = p ∙ take_all (length xs) (drop start xs) (omega (arith, length-drop start xs))

  rest-is : drop start xs ≡ beyond (is_of Space) (drop at xs)
  rest-is = ap (λ (k : ℕ). drop k xs) s ∙ drop_run (is_of Space) xs at

  front-is : front_token (drop at xs) ≡ spaced (length (front (is_of Space) (drop at xs))) (front_token (drop start xs))
  front-is = front_spaces (drop at xs) ∙ ap (λ bs. spaced (length (front (is_of Space) (drop at xs))) (front_token bs)) (sym rest-is)

  -- what stands first behind the spaces
  pub behind_spaces : (ts : List Lexeme) (n : ℕ) → ts ≡ (front_token ys).0 → n ≡ (front_token ys).1 → (ts ≡ (front_token (drop at xs)).0) × (start + n ≡ at + (front_token (drop at xs)).1)
  behind_spaces ts n e f =
      let g : front_token ys ≡ front_token (drop start xs) = ap front_token all-is in
      (e ∙ ap (λ (x : Taken). x.0) g ∙ sym (ap (λ (x : Taken). x.0) front-is), omega (arith, f, ap (λ (x : Taken). x.1) g, ap (λ (x : Taken). x.1) front-is))

  -- a byte behind them that is no mark begins a word
  module _ (b : ℕ) (bs : List ℕ) (q : ys ≡ b ∷ bs) (m : b ≡ 58 → ⊥) (n : b ≡ 124 → ⊥) where
    r : drop start xs ≡ b ∷ bs
    r = sym all-is ∙ q

    not-space : eqb b 32 ≡ false
    not-space = beyond_head (drop at xs) b bs (sym rest-is ∙ r)

    front-word : front_token (drop start xs) ≡ ((word_begun (word (drop start xs)) (length bs)).0, suc (word_begun (word (drop start xs)) (length bs)).1)
    front-word =
        ap front_token r ∙ cond-false (eqb b 32) _ _ not-space ∙
        ap (λ (x : Taken). (x.0, suc x.1)) (struck-word b bs m n ∙ ap (λ ys. word_begun (word ys) (length bs)) (sym r))

    long : Long (word (drop start xs))
    long = subst (λ ys. Long (word ys)) (sym r) (word-long b bs (or_from (eqb b 32) _ not-space (or_from (eqb b 58) (eqb b 124) (ne_eqb b 58 m) (ne_eqb b 124 n))))

    -- by the word that was looked for there
    told : (o : Option Spelled) → word (drop start xs) ≡ o → (ts : List Lexeme) (k : ℕ) → ts ≡ (word_begun o (length bs)).0 → k ≡ suc (word_begun o (length bs)).1 → (ts ≡ (front_token (drop at xs)).0) × (start + k ≡ at + (front_token (drop at xs)).1)
    told o e ts k f g =
        let h : front_token ys ≡ ((word_begun o (length bs)).0, suc (word_begun o (length bs)).1) =
        ap front_token all-is ∙ front-word ∙ ap (λ o. ((word_begun o (length bs)).0, suc (word_begun o (length bs)).1)) e in
        behind_spaces ts k (f ∙ sym (ap (λ (x : Taken). x.0) h)) (g ∙ sym (ap (λ (x : Taken). x.1) h))

    read_as_lem : (o : Option Spelled) (w : Word) → word (drop start xs) ≡ o → Some w ≡ option_map (word_of start) o → WordRead xs at start w
    read_as_lem None w e f = absurd (let z : ◌≡◌ {A = ℕ} 0 1 = cc in omega arith)
    read_as_lem (Some w') w e f =
        let g : w ≡ word_of start w' = cc in
        let sp = subst (λ o. Spells false (drop start xs) o) e (spells false (drop start xs)) in
        let l : 1 ≤ w'.taken = subst Long e long in
        let t = told (Some w') e (named (name_at xs (word_of start w').place) ∷ []) w'.taken (ap (λ ns. named ns ∷ []) sp.1) (omega arith) in
        subst (WordRead xs at start) (sym g) (record {
          begins = refl;
          some = l;
          within = omega (arith, sp.0, length-drop start xs);
          counts = ap length (sym sp.1);
          first = t.0;
          next = t.1;
        })

    pub word_read : (w : Word) → Some w ≡ option_map (word_of start) (word (drop start xs)) → WordRead xs at start w
    word_read w f = read_as_lem (word (drop start xs)) w refl f

    wrong_as : (o : Option Spelled) → word (drop start xs) ≡ o → None ≡ option_map (word_of start) o → (wrong ∷ [] ≡ (front_token (drop at xs)).0) × (length xs ≡ at + (front_token (drop at xs)).1)
    wrong_as None e f =
        let t = told None e (wrong ∷ []) (suc (length bs)) refl refl in
        (t.0, omega (arith, t.1, ap length r, length-drop start xs))
    wrong_as (Some w') e f = absurd (let z : ◌≡◌ {A = ℕ} 0 1 = cc in omega arith)

    pub word-wrong : None ≡ option_map (word_of start) (word (drop start xs)) → (wrong ∷ [] ≡ (front_token (drop at xs)).0) × (length xs ≡ at + (front_token (drop at xs)).1)
    word-wrong f = wrong_as (word (drop start xs)) refl f

-- where nothing stands first, nothing stands there at all
bar-some : (bs : List ℕ) → length (bar_begun bs).0 ≡ 1
bar-some [] = refl
bar-some (c ∷ cs) = elim (eqb c 124) as (λ v. length (cond {A = Taken} v (bars ∷ [], 1) (bar ∷ [], 0)).0 ≡ 1) [ true ↦ refl | false ↦ refl ]

word_some : (o : Option Spelled) (n : ℕ) → length (word_begun o n).0 ≡ 1
word_some None n = refl
word_some (Some s) n = refl

struck-some : (b : ℕ) (bs : List ℕ) → length (struck b bs).0 ≡ 1
struck-some b bs =
    elim (eqb b 58) as (λ v. length (cond {A = Taken} v (colon ∷ [], 0) (cond {A = Taken} (eqb b 124) (bar_begun bs) (word_begun (word (b ∷ bs)) (length bs)))).0 ≡ 1) [
      | true ↦ refl
      | false ↦ elim (eqb b 124) as (λ v. length (cond {A = Taken} v (bar_begun bs) (word_begun (word (b ∷ bs)) (length bs))).0 ≡ 1) [ true ↦ bar-some bs | false ↦ word_some (word (b ∷ bs)) (length bs) ]
    ]

-- there are no more tokens than bytes
begun-few : (b : ℕ) (bs : List ℕ) → length (begun b bs).0 ≤ 1
begun-few b bs = elim (eqb b 32) as (λ v. length (cond {A = Taken} v ([], 0) (struck b bs)).0 ≤ 1) [ true ↦ omega arith | false ↦ omega (arith, struck-some b bs) ]

past-few : (n : ℕ) (bs : List ℕ) → length (tokens_past n bs) ≤ length bs
past-few zero [] = omega arith
past-few (suc n) [] = omega arith
past-few zero (b ∷ bs) = let ih = past-few (begun b bs).1 bs in omega (arith, begun-few b bs, length-append (begun b bs).0 (tokens_past (begun b bs).1 bs), ih)
past-few (suc n) (b ∷ bs) = let ih = past-few n bs in omega (arith, ih)

pub tokens_few : (bs : List ℕ) → length (tokens bs) ≤ length bs
tokens_few bs = past-few 0 bs

pub no_token : (bs : List ℕ) → [] ≡ (front_token bs).0 → tokens bs ≡ []
no_token [] e = refl
no_token (b ∷ bs) e =
    elim (cases_Bool (eqb b 32)) [
      | inl t ↦ ap (λ (v : Bool). (cond {A = Taken} v ([], 0) (struck b bs)).0 ++ tokens_past (cond {A = Taken} v ([], 0) (struck b bs)).1 bs) t ∙
          no_token bs (e ∙ ap (λ (v : Bool). (cond {A = Taken} v ((front_token bs).0, suc (front_token bs).1) ((struck b bs).0, suc (struck b bs).1)).0) t)
      | inr f ↦ absurd (let g : [] ≡ (struck b bs).0 = e ∙ ap (λ (v : Bool). (cond {A = Taken} v ((front_token bs).0, suc (front_token bs).1) ((struck b bs).0, suc (struck b bs).1)).0) f in
          let z : 0 ≡ 1 = ap length g ∙ struck-some b bs in omega arith)
    ]

-- the tokens from an offset on, by the token that was read there
pub tokens_read : (xs : List ℕ) (at next : ℕ) (ts : List Lexeme) → ts ≡ (front_token (drop at xs)).0 → next ≡ at + (front_token (drop at xs)).1 → tokens (drop at xs) ≡ ts ++ tokens (drop next xs)
tokens_read xs at next ts e f =
    tokens-front (drop at xs) ∙ ap (λ us. us ++ tokens (drop (front_token (drop at xs)).1 (drop at xs))) (sym e) ∙
    ap (λ bs. ts ++ tokens bs) (drop-drop (front_token (drop at xs)).1 at xs ∙ ap (λ (k : ℕ). drop k xs) (sym f))
