-- Rows of a table, as it learns. Assumes nothing.
use Rattle.std.proofs.Common.{◌≡◌, ℕ, ◌+◌, true, false, ltb, List, map, get_or, set, Some, None, Option, refl, ap, ◌∙◌}
use Rattle.std.proofs.Math.Seq.{map-set_same}
use Rattle.std.proofs.lemmas.List.{map-set, map_push}
use Rattle.terms.specs.Lists.{every, is_in, ◌▷◌}
use Rattle.image.specs.declared.entry.DepsEntry.{DepsEntry}
use Rattle.image.specs.declared.name.Name.{Name}
use Rattle.image.specs.declared.row.Row.{Row}
use Rattle.image.specs.Bytes.{path, deps}
use Rattle.image.specs.Tables.{Entry, Table, learn}
use Rattle.image.specs.Kept.{distinct, fits_entry}
use Rattle.image.specs.View.{text, entry_of, name_in, entry_in, table_of}
use Rattle.image.proofs.Tests.{every_push, every_set, every_more}
use Rattle.image.proofs.Learned.{distinct_push, fits_more, entry-fits}

-- a name more, with no entry
abbrev pub named : List Row → Name → List Row
named rs n = rs ▷ record { name = n; entry = None }

pub named-table : (rs : List Row) (n : Name) → table_of (named rs n) ≡ learn (table_of rs) (path (text n))
named-table rs n =
    let F : List (List ℕ) → List (Option Entry) → Table = λ ns es. record { names = ns; entries = es } in
    let r : Row = record { name = n; entry = None } in
    ap (λ (ns : List (List ℕ)). F ns (map entry_in (named rs n))) (map_push name_in rs r) ∙ ap (F (map name_in rs ▷ text n)) (map_push entry_in rs r)

pub named-apart : (rs : List Row) (n : Name) → distinct (map name_in rs) ≡ true → is_in (text n) (map name_in rs) ≡ false → distinct (map name_in (named rs n)) ≡ true
named-apart rs n d u = ap distinct (map_push name_in rs (record { name = n; entry = None })) ∙ distinct_push (map name_in rs) (text n) d u

pub named-fitting : (rs : List Row) (n : Name) (k : ℕ) → every (fits_entry k) (map entry_in rs) ≡ true → every (fits_entry (k + 1)) (map entry_in (named rs n)) ≡ true
named-fitting rs n k h =
    ap (every (fits_entry (k + 1))) (map_push entry_in rs (record { name = n; entry = None })) ∙
    every_push (fits_entry (k + 1)) (map entry_in rs) None (every_more (fits_entry k) (fits_entry (k + 1)) (fits_more k) (map entry_in rs) h) refl

-- another entry in a row
abbrev pub entered : List Row → ℕ → Row → DepsEntry → List Row
entered rs i r e = set rs i (record { name = r.name; entry = Some e })

entered-names : (rs : List Row) (i : ℕ) (r : Row) (e : DepsEntry) → r ≡ get_or rs i r → map name_in (entered rs i r e) ≡ map name_in rs
entered-names rs i r e h = map-set_same name_in rs i (record { name = r.name; entry = Some e }) r (ap name_in h)

pub entered-table : (rs : List Row) (i : ℕ) (r : Row) (e : DepsEntry) → r ≡ get_or rs i r →
    table_of (entered rs i r e) ≡ learn (table_of rs) (deps i (entry_of e).mtime (entry_of e).inputs)
entered-table rs i r e h =
    let F : List (List ℕ) → List (Option Entry) → Table = λ ns es. record { names = ns; entries = es } in
    ap (λ (ns : List (List ℕ)). F ns (map entry_in (entered rs i r e))) (entered-names rs i r e h) ∙
    ap (F (map name_in rs)) (map-set entry_in rs i (record { name = r.name; entry = Some e }))

pub entered-apart : (rs : List Row) (i : ℕ) (r : Row) (e : DepsEntry) → r ≡ get_or rs i r → distinct (map name_in rs) ≡ true → distinct (map name_in (entered rs i r e)) ≡ true
entered-apart rs i r e h d = ap distinct (entered-names rs i r e h) ∙ d

pub entered-fitting : (rs : List Row) (i : ℕ) (r : Row) (e : DepsEntry) (k : ℕ) → every (fits_entry k) (map entry_in rs) ≡ true → every (λ id. ltb id k) (entry_of e).inputs ≡ true →
    every (fits_entry k) (map entry_in (entered rs i r e)) ≡ true
entered-fitting rs i r e k h q =
    ap (every (fits_entry k)) (map-set entry_in rs i (record { name = r.name; entry = Some e })) ∙
    every_set (fits_entry k) (map entry_in rs) i (Some (entry_of e)) h (entry-fits k e q)
