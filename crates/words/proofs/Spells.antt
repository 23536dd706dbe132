-- Words, byte by byte. Assumes nothing.
use Rattle.std.proofs.Common.{◌≡◌, ℕ, ◌≤◌, Bool, true, false, cond, not, ◌&&◌, ◌||◌, eqb, List, [], ◌∷◌, ◌++◌, length, take, Some, None, Option, sym, refl, ap, ◌∙◌, inl, inr, arith}
use Rattle.std.specs.Option.{option_map}
use Rattle.std.proofs.lemmas.Bool.{cases_Bool, and_parts, or_parts, or_from, cond-true, cond-false, not-true}
use Rattle.terms.specs.Lists.{every}
use Rattle.words.specs.Spelling.{ends, escapes, Spelled, nothing, further, spelling, word, unescaped_from, escaped, stops, EscapesBack}

-- One byte ------------------------------------------------------------------------------------------------------------

pub spell_end : (b : ℕ) (bs : List ℕ) → ends b ≡ true → word (b ∷ bs) ≡ Some nothing
spell_end b bs e = cond-true (ends b) (Some nothing) (option_map (further (eqb b 36) b) (spelling (eqb b 36) bs)) e

pub spell_plain : (b : ℕ) (bs : List ℕ) → ends b ≡ false → eqb b 36 ≡ false → word (b ∷ bs) ≡ option_map (further false b) (word bs)
spell_plain b bs e f =
    cond-false (ends b) (Some nothing) (option_map (further (eqb b 36) b) (spelling (eqb b 36) bs)) e ∙
    ap (λ (s : Bool). option_map (further s b) (spelling s bs)) f

-- behind a sign
pub spell_escape : (c : ℕ) (cs : List ℕ) → escapes c ≡ true → word (36 ∷ c ∷ cs) ≡ option_map (further true 36) (option_map (further false c) (word cs))
spell_escape c cs e = ap (λ (t : Bool). option_map (further true 36) (cond (not t) None (option_map (further false c) (word cs)))) e

-- Words and their names -----------------------------------------------------------------------------------------------

-- the bytes that a word takes spell its name, and are there
abbrev pub Spells : Bool → List ℕ → Option Spelled → Type 0
Spells d bs None = Unit {0}
Spells d bs (Some s) = (s.taken ≤ length bs) × (unescaped_from d (take s.taken bs) ≡ s.name)

spells-on : (d sign : Bool) (b : ℕ) (bs : List ℕ) (o : Option Spelled) → sign ≡ (not d && eqb b 36) → Spells sign bs o → Spells d (b ∷ bs) (option_map (further sign b) o)
spells-on d sign b bs None e p = tt
spells-on d sign b bs (Some s) e p = (
  omega (arith, p.0),
  ap (λ (t : Bool). cond t (unescaped_from t (take s.taken bs)) (b ∷ unescaped_from t (take s.taken bs))) (sym e) ∙ ap (λ ns. cond sign ns (b ∷ ns)) p.1,
)

pub spells : (d : Bool) (bs : List ℕ) → Spells d bs (spelling d bs)
spells true [] = tt
spells false [] = (omega arith, refl)
spells d (b ∷ bs) =
    elim (not d && ends b) as (λ v. Spells d (b ∷ bs) (cond v (Some nothing) (cond (d && not (escapes b)) None (option_map (further (not d && eqb b 36) b) (spelling (not d && eqb b 36) bs))))) [
      | true ↦ (omega arith, refl)
      | false ↦ elim (d && not (escapes b)) as (λ v. Spells d (b ∷ bs) (cond v None (option_map (further (not d && eqb b 36) b) (spelling (not d && eqb b 36) bs)))) [
        | true ↦ tt
        | false ↦ spells-on d (not d && eqb b 36) b bs (spelling (not d && eqb b 36) bs) refl (spells (not d && eqb b 36) bs)
      ]
    ]

-- The law -------------------------------------------------------------------------------------------------------------

nothing-more : (rest : List ℕ) → stops rest ≡ true → word rest ≡ Some nothing
nothing-more [] e = refl
nothing-more (b ∷ bs) e = spell_end b bs e

apart : (b : ℕ) → escapes b ≡ false → not (eqb b 124) ≡ true → (ends b ≡ false) × (eqb b 36 ≡ false)
apart b e f =
    let p = or_parts (eqb b 32) (eqb b 58 || eqb b 36) e in
    let q = or_parts (eqb b 58) (eqb b 36) p.1 in
    (or_from (eqb b 32) (eqb b 58 || eqb b 124) p.0 (or_from (eqb b 58) (eqb b 124) q.0 (not-true (eqb b 124) f)), q.1)

abbrev spelt : ℕ → List ℕ → Option Spelled
spelt n name = Some (record { taken = n; name = name })

pub escapes-back : EscapesBack
escapes-back [] rest p q = nothing-more rest q
escapes-back (b ∷ bs) rest p q =
    let r = and_parts (not (eqb b 124)) (every (λ c. not (eqb c 124)) bs) p in
    let ih = escapes-back bs rest r.1 q in
    elim (cases_Bool (escapes b)) [
      | inl t ↦ ap (λ (v : Bool). word (cond v (36 ∷ b ∷ escaped bs) (b ∷ escaped bs) ++ rest)) t ∙ spell_escape b (escaped bs ++ rest) t ∙
          ap (λ o. option_map (further true 36) (option_map (further false b) o)) ih ∙ ap (λ (v : Bool). spelt (length (cond v (36 ∷ b ∷ escaped bs) (b ∷ escaped bs))) (b ∷ bs)) (sym t)
      | inr f ↦ (let k = apart b f r.0 in
          ap (λ (v : Bool). word (cond v (36 ∷ b ∷ escaped bs) (b ∷ escaped bs) ++ rest)) f ∙ spell_plain b (escaped bs ++ rest) k.0 k.1 ∙
          ap (λ o. option_map (further false b) o) ih ∙ ap (λ (v : Bool). spelt (length (cond v (36 ∷ b ∷ escaped bs) (b ∷ escaped bs))) (b ∷ bs)) (sym f))
    ]
