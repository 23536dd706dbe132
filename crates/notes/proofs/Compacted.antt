-- A recompaction reads back, tells the same entries, and has as many bytes when it is made again. Assumes nothing.
use Rattle.std.proofs.Common.{◌≡◌, ℕ, true, ◌⊎◌, List, [], ◌∷◌, length, Some, None, sum_by, Option, sym, refl, ap, ◌∙◌, inl, inr, arith}
use Rattle.std.proofs.lemmas.List.Sums.{sum_by-cons}
use Rattle.std.proofs.lemmas.Bool.{and_parts}
use Rattle.terms.specs.Lists.{every, is_in}
use Rattle.image.specs.Bytes.{header}
use Rattle.image.specs.Tables.{Table, bare}
use Rattle.image.specs.Kept.{Kept}
use Rattle.notes.specs.Notes.{Says, entry_of}
use Rattle.notes.specs.Compacting.{entries_of, compact_bytes, compact_table}
use Rattle.notes.specs.Wholeness.{Whole}
use Rattle.notes.specs.Laws.{path_length, Compaction}
use Rattle.notes.proofs.Wholes.{notes_read_back, noting_keeps}
use Rattle.notes.proofs.LatestNoted.{bare-kept, latest-noted, entries-noted, by_id}
use Rattle.notes.proofs.Weights.{Covered, covered_all, sum_within, Within}
use Rattle.notes.proofs.Refits.{entry_sound, compact_fits, compact_within}
use Rattle.notes.proofs.Lengths.{entry_size, size_in, compact_length}

sums_same : (f g : List ℕ → ℕ) (xs : List (List ℕ)) → ((x : List ℕ) → f x ≡ g x) → sum_by f xs ≡ sum_by g xs
sums_same f g [] h = refl
sums_same f g (x ∷ xs) h = omega (arith, sum_by-cons f x xs, sum_by-cons g x xs, h x, sums_same f g xs h)

-- names within each other weigh the same
sums-both : (f : List ℕ → ℕ) (xs ys : List (List ℕ)) → Within ys xs → Within xs ys → sum_by f xs ≡ sum_by f ys
sums-both f xs ys a b = omega (arith, sum_within f xs ys a.0 (covered_all f ys xs a.1), sum_within f ys xs b.0 (covered_all f xs ys b.1))

header-whole : Whole header
header-whole = record { headed = refl; within = refl; reaches = refl; clean = refl; kept = bare-kept }

module _ (t : Table) (k : Kept t) where
  compact_same : (output : List ℕ) → entry_of (compact_table t) output ≡ entry_of t output
  compact_same output = sym (latest-noted (entries_of t) (compact_fits t k) output) ∙ entries-noted t output

  compact_kept : Kept (compact_table t)
  compact_kept = noting_keeps bare (entries_of t) bare-kept (compact_fits t k)

  compact_inside : Within t.names (compact_table t).names
  compact_inside = compact_within t.names t (λ o s e. (entry_sound t k o s e).inside)

  -- a name with an entry is known after it
  entry-inside : (o : List ℕ) (x : Option Says) → entry_of t o ≡ x → (is_in o (compact_table t).names ≡ true) ⊎ (entry_size x ≡ 0)
  entry-inside o None e = inr refl
  entry-inside o (Some s) e =
      let K : List (List ℕ) = (compact_table t).names in
      inl (and_parts (is_in o K) (every (λ y. is_in y K) s.inputs) (entry_sound (compact_table t) compact_kept o s (compact_same o ∙ e)).inside).0

  covered_names : (xs : List (List ℕ)) → Covered (size_in t) (compact_table t).names xs
  covered_names [] = tt
  covered_names (x ∷ xs) = (entry-inside x (entry_of t x) refl, covered_names xs)

  sizes_again : sum_by (size_in (compact_table t)) (compact_table t).names ≡ sum_by (size_in t) t.names
  sizes_again =
      let K : List (List ℕ) = (compact_table t).names in
      let w = compact_inside in
      omega (
        arith,
        sums_same (size_in (compact_table t)) (size_in t) K (λ o. ap entry_size (compact_same o)),
        sum_within (size_in t) K t.names w.0 (covered_all (size_in t) t.names K w.1),
        sum_within (size_in t) t.names K k.apart (covered_names t.names),
      )

compact_again : (t : Table) → Kept t → length (compact_bytes (compact_table t)) ≡ length (compact_bytes t)
compact_again t k =
    let u : Table = compact_table t in
    let v : Table = compact_table u in
    let ku = compact_kept t k in
    let kv = compact_kept u ku in
    let w : Within v.names u.names = compact_within v.names t (λ o s e. (entry_sound v kv o s (compact_same u ku o ∙ compact_same t k o ∙ e)).inside) in
    omega (arith, compact_length t k, compact_length u ku, sizes_again t k, sums-both path_length u.names v.names w (compact_inside u ku))

pub compaction : Compaction
compaction t k = record {
  fits = compact_fits t k;
  tells = notes_read_back header (entries_of t) header-whole (compact_fits t k);
  same = compact_same t k;
  noted = entries-noted t;
  again = compact_again t k;
  placed = by_id t k;
}
