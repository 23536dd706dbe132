use Rattle.std.proofs.Common.{◌≡◌, ℕ, ◌<◌, true, cond, leb, List, length, take, drop, Some, None, codes, Option, sym, ap, ◌∙◌, arith}
use Rattle.std.specs.Option.{option_map}
use Rattle.std.specs.Str.{bytes_eq}
use Rattle.std.proofs.lemmas.Bool.{le-leb, lt-leb}
use Rattle.terms.specs.Names.{is_name}
use Rattle.words.specs.Line.{line_bytes}
use Rattle.listing.specs.Rows.{decimal, digits_of, name_of}
use Rattle.listing.specs.Shown.{listed}
use Rattle.listing.proofs.Said.{found_number, no_number, no_value, too_large, no_space, no_name, a_row, value_is, space_is, inside, named}
use Rattle.listing.proofs.entry.row_at.Goals as goal
use Rattle.listing.proofs.entry.row_at.Goals.{After-number, After-begins-2, After-of}

-- the number that the digits say, where it is no larger than may be
abbrev value_of : ℕ → Option ℕ
value_of n = cond (leb n 9223372036854775807) (Some n) None

value : (c : After-number) → c.number.result ≡ value_of (decimal 0 (digits_of (line_bytes c.args.line)))
value c = value_is c.args.line.text.now c.front-bytes.result.now c.args.line.end c.args.line.at c.span_end-past.result c.front-bytes.ensures c.span_end-past.ensures.end c.part.result.now c.number.result c.part.ensures c.number.ensures

-- behind a space the line goes on, with the name
goes_on : (c : After-begins-2) → c.begins-2.result ≡ true → c.span_end-past.result < length (take c.args.line.end c.args.line.text.now)
goes_on c e = inside c.args.line.text.now c.front-bytes.result.now c.args.line.end c.args.line.at c.span_end-past.result c.front-bytes.ensures c.span_end-past.ensures.end c.begins-2.result c.begins-2.ensures e

name : (c : After-of) → c.begins-2.result ≡ true → c.of.result.now ≡ name_of (line_bytes c.args.line)
name c e =
    let xs = c.args.line.text.now in
    let L = c.front-bytes.result.now in
    let h = inside xs L c.args.line.end c.args.line.at c.span_end-past.result c.front-bytes.ensures c.span_end-past.ensures.end c.begins-2.result c.begins-2.ensures e in
    named xs L c.args.line.end c.args.line.at c.span_end-past.result c.front-bytes.ensures c.span_end-past.ensures.end c.of.result.now h c.of.ensures

pub returns-in_err-mtime : goal.returns-in_err-mtime
returns-in_err-mtime c =
    let l = line_bytes c.args.line in
    ap (option_map (listed c.args.line.text.now)) c.from_residual.ensures ∙
    too_large l (no_number (leb (decimal 0 (digits_of l)) 9223372036854775807) (decimal 0 (digits_of l)) (sym c.in_err-mtime.was ∙ value (goal.at.returns-in_err-mtime c).After-number))

pub returns-then-mtime-lt-EARLIEST : goal.returns-then-mtime-lt-EARLIEST
returns-then-mtime-lt-EARLIEST c =
    let l = line_bytes c.args.line in
    let k = found_number (leb (decimal 0 (digits_of l)) 9223372036854775807) (decimal 0 (digits_of l)) c.in_ok-mtime.mtime (sym c.in_ok-mtime.was ∙ value (goal.at.returns-then-mtime-lt-EARLIEST c).After-number) in
    no_value l (lt-leb 1 (decimal 0 (digits_of l)) (omega (arith, k.1, c.if-mtime-lt-EARLIEST.true)))

pub returns-then-not-begins : goal.returns-then-not-begins
returns-then-not-begins c =
    no_space (line_bytes c.args.line)
    (space_is c.args.line.text.now c.front-bytes.result.now c.args.line.end c.args.line.at c.span_end-past.result c.front-bytes.ensures c.span_end-past.ensures.end c.begins-2.result c.begins-2.ensures ∙ c.if-not-begins.true)

pub overflow_sub-name-2 : goal.overflow_sub-name-2
overflow_sub-name-2 c = omega (arith, goes_on (goal.at.overflow_sub-name-2 c).After-begins-2 c.if-not-begins.false, ap length c.front-bytes.ensures)

pub returns-then-not-is_name : goal.returns-then-not-is_name
returns-then-not-is_name c =
    no_name (line_bytes c.args.line) (ap is_name (sym (name (goal.at.returns-then-not-is_name c).After-of c.if-not-begins.false)) ∙ sym c.is_name.ensures ∙ c.if-not-is_name.true)

pub returns : goal.returns
returns c =
    let text = c.args.line.text.now in
    let l = line_bytes c.args.line in
    let n = name (goal.at.returns c).After-of c.if-not-begins.false in
    let k = found_number (leb (decimal 0 (digits_of l)) 9223372036854775807) (decimal 0 (digits_of l)) c.in_ok-mtime.mtime (sym c.in_ok-mtime.was ∙ value (goal.at.returns c).After-number) in
    a_row l (ap (λ (xs : List ℕ). bytes_eq (take 1 (drop c.args.line.at xs)) (codes "0")) (sym c.front-bytes.ensures) ∙ sym c.begins.ensures ∙ c.if-begins.false)
    (le-leb 1 (decimal 0 (digits_of l)) (omega (arith, k.1, c.if-mtime-lt-EARLIEST.false))) k.0
    (space_is text c.front-bytes.result.now c.args.line.end c.args.line.at c.span_end-past.result c.front-bytes.ensures c.span_end-past.ensures.end c.begins-2.result c.begins-2.ensures ∙ c.if-not-begins.false)
    (ap is_name (sym n) ∙ sym c.is_name.ensures ∙ c.if-not-is_name.false) _ c.in_ok-mtime.mtime (sym c.of.ensures ∙ n) k.1
