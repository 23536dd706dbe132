-- Worked examples of the definitions, a row each. Assumes nothing.
use Rattle.std.specs.Prelude.{◌≡◌, ℕ, true, false, List, [], ◌∷◌, ◌++◌, length, take, replicate, Some, None, Ok, Err, codes}
use Rattle.std.specs.Str.{bytes_eq}
use Rattle.terms.specs.declared.Refusal.TheVariants.{NoHeader, OverLimit, NotName, TooManyInputs}
use Rattle.terms.specs.declared.Place.{Place}
use Rattle.terms.specs.Refusals.{number_and_place}
use Rattle.image.specs.declared.cause.Cause.TheVariants.{TooLong}
use Rattle.image.specs.declared.filled.Filled.{Filled}
use Rattle.terms.specs.Names.{is_name}
use Rattle.image.specs.Bytes.{Record, path, deps, header, records_bytes}
use Rattle.image.specs.Reading.{cause_number}
use Rattle.image.specs.Tables.{Table, bare}
use Rattle.image.specs.Scans.{known, good_bytes, is_over, filled}
use Rattle.notes.specs.Notes.{Note, entry_of, note_bytes, note_table, notes_table}
use Rattle.notes.specs.Compacting.{compact_bytes, compact_table}
use Rattle.notes.specs.Latest.{latest}
use Rattle.depslog.specs.Checks.{open_fault}
use Rattle.depslog.specs.Calls.{opened_of}
use Rattle.depslog.specs.NoteCall.{note_fault}
use Rattle.depslog.specs.Recompacting.{recompact_fault}
use Rattle.manifest.specs.Books.{read_manifest}
use Rattle.listing.specs.Rows.{read_listing}
use Rattle.planner.specs.Stale.{Meets}
use Rattle.examples.specs.Planned.{manifest_text, listing_text, book, rows, world, plan}

-- output a.o with mtime 7 and the inputs a.c and ab.h
abbrev pub first : List Record
first = path (codes "a.o") ∷ path (codes "a.c") ∷ path (codes "ab.h") ∷ deps 0 7 (1 ∷ 2 ∷ []) ∷ []

abbrev pub image76 : List ℕ
image76 = header ++ records_bytes 0 first

abbrev pub table76 : Table
table76 = record {
  names = codes "a.o" ∷ codes "a.c" ∷ codes "ab.h" ∷ [];
  entries = Some (record { mtime = 7; inputs = 1 ∷ 2 ∷ [] }) ∷ None ∷ None ∷ [];
}

-- the same, as a note, and another one later
abbrev pub note7 : Note
note7 = record { output = codes "a.o"; says = record { mtime = 7; inputs = codes "a.c" ∷ codes "ab.h" ∷ [] } }

abbrev pub note9 : Note
note9 = record { output = codes "a.o"; says = record { mtime = 9; inputs = codes "a.c" ∷ [] } }

abbrev pub image96 : List ℕ
image96 = image76 ++ note_bytes table76 note9

-- an output made at 5
abbrev pub made : List ℕ → List (List ℕ) → Note
made output inputs = record { output = output; says = record { mtime = 5; inputs = inputs } }

-- a, c and b are noted, and then a again, from b
abbrev pub moved : Table
moved = notes_table bare (made (codes "a") [] ∷ made (codes "c") [] ∷ made (codes "b") [] ∷ made (codes "a") (codes "b" ∷ []) ∷ [])

-- the same names, and no entry
abbrev pub table52 : Table
table52 = record { names = codes "a.o" ∷ codes "a.c" ∷ codes "ab.h" ∷ []; entries = None ∷ None ∷ None ∷ [] }

abbrev pub nothing : Filled
nothing = record { records = 0; length = 16; tail = None }

-- the ids 0, 0, and so on
abbrev pub zeros : ℕ → List ℕ
zeros n = replicate n 0

-- the first n bytes
abbrev pub front : ℕ → Place
front n = record { start = 0; length = n }

-- n bytes, all of them `a`
abbrev pub letters : ℕ → List ℕ
letters n = replicate n 0x61

pub record Examples : Type 0 where
  pub first_length : length image76 ≡ 76
  pub first_bytes : records_bytes 0 first
      ≡ (0x08 ∷ 0x00 ∷ 0x00 ∷ 0x00 ∷ 0x61 ∷ 0x2E ∷ 0x6F ∷ 0x00 ∷ 0xFF ∷ 0xFF ∷ 0xFF ∷ 0xFF ∷ [])
      ++ (0x08 ∷ 0x00 ∷ 0x00 ∷ 0x00 ∷ 0x61 ∷ 0x2E ∷ 0x63 ∷ 0x00 ∷ 0xFE ∷ 0xFF ∷ 0xFF ∷ 0xFF ∷ [])
      ++ (0x08 ∷ 0x00 ∷ 0x00 ∷ 0x00 ∷ 0x61 ∷ 0x62 ∷ 0x2E ∷ 0x68 ∷ 0xFD ∷ 0xFF ∷ 0xFF ∷ 0xFF ∷ [])
      ++ (0x14 ∷ 0x00 ∷ 0x00 ∷ 0x80 ∷ 0x00 ∷ 0x00 ∷ 0x00 ∷ 0x00 ∷ 0x07 ∷ 0x00 ∷ 0x00 ∷ 0x00 ∷ 0x00 ∷ 0x00 ∷ 0x00 ∷ 0x00 ∷ 0x01 ∷ 0x00 ∷ 0x00 ∷ 0x00 ∷ 0x02 ∷ 0x00 ∷ 0x00 ∷ 0x00 ∷ [])
  pub first_read : filled image76 ≡ (Ok (record { records = 4; length = 76; tail = None }), table76)
  pub cut_read : filled (take 75 image76) ≡ (Ok (record { records = 3; length = 52; tail = Some (record { offset = 52; value = TooLong }) }), table52)
  pub cut_cause : cause_number TooLong ≡ 2
  pub cut_good : good_bytes (take 75 image76) ≡ take 52 image76
  pub cut_opened : opened_of (take 75 image76) ≡ record { records = 3; tail = Some (record { offset = 52; value = TooLong }) }
  pub cut_granted : open_fault 52 (take 75 image76) 75 ≡ None
  pub cut_mended : length (good_bytes (take 75 image76)) ≡ 52
  pub empty_read : filled [] ≡ (Ok nothing, bare)
  pub header_read : filled header ≡ (Ok nothing, bare)
  pub fifteen_refused : filled (take 15 header) ≡ (Err NoHeader, bare)
  pub headless_number : number_and_place NoHeader ≡ (5, 0)
  pub over_number : number_and_place (OverLimit 16) ≡ (6, 16)
  pub name_120 : is_name (replicate 120 0x61) ≡ true
  pub name_121 : is_name (replicate 121 0x61) ≡ false
  pub name_120_noted : note_fault true bare (letters 120) (front 120) 7 [] ≡ None
  pub name_121_refused : note_fault true bare (letters 121) (front 121) 7 [] ≡ Some (NotName 0)
  pub name_number : number_and_place (NotName 0) ≡ (8, 0)
  pub inputs_64_noted : note_fault true bare (letters 1) (front 1) 7 (replicate 64 (front 1)) ≡ None
  pub inputs_65_refused : note_fault true bare (letters 1) (front 1) 7 (replicate 65 (front 1)) ≡ Some TooManyInputs
  pub inputs_number : number_and_place TooManyInputs ≡ (10, 64)
  pub path_120 : is_over 255 (path (replicate 120 0x61)) ≡ false
  pub path_121 : is_over 0 (path (replicate 121 0x61)) ≡ true
  pub path_257th : is_over 256 (path (codes "a")) ≡ true
  pub inputs_64 : is_over 1 (deps 0 7 (zeros 64)) ≡ false
  pub inputs_65 : is_over 1 (deps 0 7 (zeros 65)) ≡ true
  pub noted_new : header ++ note_bytes bare note7 ≡ image76
  pub noted_table : note_table bare note7 ≡ table76
  pub noted_again : note_bytes table76 note7 ≡ []
  pub noted_known : note_bytes table76 note9 ≡ records_bytes 3 (deps 0 9 (1 ∷ []) ∷ [])
  pub noted_length : length image96 ≡ 96
  pub noted_read : filled image96 ≡ (Ok (record { records = 5; length = 96; tail = None }), note_table table76 note9)
  pub noted_entry : entry_of (known image96) (codes "a.o") ≡ Some note9.says
  pub noted_latest : latest (note7 ∷ note9 ∷ []) (codes "a.o") ≡ Some note9.says
  pub compacted_length : length (compact_bytes (known image96)) ≡ 60
  pub compacted_granted : recompact_fault true 60 (known image96) ≡ None
  pub compacted_bytes : compact_bytes (known image96) ≡ header ++ records_bytes 0 (path (codes "a.o") ∷ path (codes "a.c") ∷ deps 0 9 (1 ∷ []) ∷ [])
  pub compacted_read : known (compact_bytes (known image96)) ≡ compact_table (known image96)
  pub compacted_again : compact_bytes (compact_table (known image96)) ≡ compact_bytes (known image96)
  pub moved_bytes : bytes_eq (compact_bytes (compact_table moved)) (compact_bytes moved) ≡ false
  pub moved_length : length (compact_bytes (compact_table moved)) ≡ length (compact_bytes moved)
  pub manifest_read : read_manifest manifest_text ≡ Ok book
  pub listing_read : read_listing listing_text ≡ Ok rows
  pub plan_made : Meets world plan
