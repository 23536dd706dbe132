use borrow.Rule.Slice.PartMut.{put_mid}
use Rattle.std.proofs.Common.{◌≡◌, ℕ, ◌+◌, ◌-◌, List, ◌++◌, length, take, drop, replicate, refl, ap, ◌∙◌, arith}
use Rattle.std.proofs.lemmas.List.{length-append, length-replicate}
use Rattle.image.specs.Bytes.{path, word, padding, padded, checksum, record_bytes}
use Rattle.image.specs.View.{text}
use Rattle.image.proofs.Writes.{Fronted, length-padded, length-path, path_pieces, length-fronted, length-part, fronted_first, fronted-more, all-written}
use Rattle.image.proofs.writer.write_path.Goals as goal

pub returns : goal.returns
returns c =
    let old = c.args.buf.now in
    let name : List ℕ = text c.args.name.now in
    let len = length c.as_bytes-bytes.result.now in
    let pad = c.padding_of-zeros.result in
    let zeros : List ℕ = replicate (padding (length name)) 0 in
    let n : len ≡ length name = ap length c.as_bytes-bytes.ensures.bytes in
    let z : pad ≡ padding (length name) = c.padding_of-zeros.ensures ∙ ap padding n in
    let w : ℕ = length (padded name) + 4 in
    let e : len + pad + 4 ≡ w = omega (arith, n, z, length-padded name) in
    let b1 : List ℕ = c.copy_from_slice.new.self ++ drop 4 old in
    let b2 : List ℕ = put_mid 4 (4 + len - 4) b1 c.copy_from_slice-2.new.self in
    let b3 : List ℕ = put_mid (4 + len) (len + pad + 4 - (4 + len)) b2 c.fill.new.self in
    let b4 : List ℕ = put_mid (len + pad + 4) (4 + (len + pad + 4) - (len + pad + 4)) b3 c.copy_from_slice-3.new.self in
    let l2 : length (word w ++ name) ≡ 4 + len = omega (arith, n, length-append (word w) name) in
    let l3 : length ((word w ++ name) ++ zeros) ≡ 4 + len + pad = omega (arith, l2, z, length-append (word w ++ name) zeros, length-replicate {A = ℕ} (padding (length name)) 0) in
    let s1 : Fronted (word w) old b1 = fronted_first old c.copy_from_slice.new.self (word w) 4 (c.copy_from_slice.ensures.after ∙ c.to_le_bytes.ensures ∙ ap word e) refl in
    let s2 : Fronted (word w ++ name) old b2 =
    fronted-more (word w) old b1 c.copy_from_slice-2.new.self name 4 (4 + len - 4) s1 refl (c.copy_from_slice-2.ensures.after ∙ c.as_bytes-bytes.ensures.bytes) (omega (arith, n)) in
    let m2 : length b2 ≡ length old = length-fronted (word w ++ name) old b2 s2 (omega (arith, l2, c.if-buf-size.false)) in
    let k : ℕ = len + pad + 4 - (4 + len) in
    let p : length (take k (drop (4 + len) b2)) ≡ k = length-part b2 (4 + len) k (omega (arith, m2, c.if-buf-size.false)) in
    let q : k ≡ padding (length name) = omega (arith, z) in
    let f : c.fill.new.self ≡ zeros = c.fill.ensures.after (λ y r. r) ∙ ap (λ (j : ℕ). replicate j 0) (p ∙ q) in
    let s3 : Fronted ((word w ++ name) ++ zeros) old b3 =
    fronted-more (word w ++ name) old b2 c.fill.new.self zeros (4 + len) k s2 (omega (arith, l2)) f (omega (arith, q, length-replicate {A = ℕ} (padding (length name)) 0)) in
    let s4 : Fronted (((word w ++ name) ++ zeros) ++ word (checksum c.args.id)) old b4 =
    fronted-more ((word w ++ name) ++ zeros) old b3 c.copy_from_slice-3.new.self (word (checksum c.args.id)) (len + pad + 4) (4 + (len + pad + 4) - (len + pad + 4)) s3 (omega (arith, l3))
    (c.copy_from_slice-3.ensures.after ∙ c.to_le_bytes-2.ensures) (omega arith) in
    let g = path_pieces c.args.id name zeros w (checksum c.args.id) refl refl refl in
    all-written (record_bytes c.args.id (path name)) old b4 (4 + (len + pad + 4)) (s4 ∙ ap (λ (xs : List ℕ). xs ++ drop (length xs) old) g)
    (omega (arith, n, z, length-path c.args.id name)) c.if-buf-size.false
