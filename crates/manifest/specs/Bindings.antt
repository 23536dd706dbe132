-- The indented lines of a rule. Assumes nothing.
use Rattle.std.specs.Prelude.{ℕ, Bool, cond, not, ◌&&◌, List, drop, Some, None, codes, Option}
use Rattle.std.specs.Str.{bytes_eq}
use Rattle.terms.specs.Lists.{empty, every}
use Rattle.words.specs.Runs.{is_of, front, beyond}
use Rattle.words.specs.declared.class.Class.TheVariants.{Space, InKey, Shown}
use Rattle.manifest.specs.Kinds.{begins}

abbrev pub unspaced : List ℕ → List ℕ
unspaced l = beyond (is_of Space) l

-- the key: bytes without space or `=`
abbrev pub key_of : List ℕ → List ℕ
key_of l = front (is_of InKey) (unspaced l)

-- what stands behind the key and spaces
abbrev pub from_equals : List ℕ → List ℕ
from_equals l = unspaced (beyond (is_of InKey) (unspaced l))

-- the rest of the line behind `=` and spaces
abbrev pub value_of : List ℕ → List ℕ
value_of l = unspaced (drop 1 (from_equals l))

-- `KEY = VALUE`: no byte below 32, a key of one byte or more, and a `=`
abbrev pub is_binding : List ℕ → Bool
is_binding l = every (is_of Shown) l && (not (empty (key_of l)) && begins (codes "=") (from_equals l))

abbrev pub binds_deps : List ℕ → Bool
binds_deps l = bytes_eq (key_of l) (codes "deps") && bytes_eq (value_of l) (codes "gcc")

-- whether a binding says `deps = gcc`
abbrev pub binding_of : List ℕ → Option Bool
binding_of l = cond (is_binding l) (Some (binds_deps l)) None
