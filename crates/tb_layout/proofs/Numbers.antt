-- Numbers in bytes: what is written is read back, and what is read is written back.
use Rattle.std.proofs.Common.{◌≡◌, ℕ, zero, suc, ◌+◌, ◌-◌, ◌*◌, ◌/◌, ◌%◌, ◌^◌, ◌<◌, ◌≤◌, List, [], ◌∷◌, ◌++◌, length, take, drop, refl, sym, ap, ◌∙◌, arith, append_assoc, append-nil, length-take-le, length-drop}
use Rattle.std.specs.Prelude.{All}
use Rattle.std.proofs.lemmas.List.Elements.{All-take, All-drop}
use Rattle.std.proofs.Math.Nat.{div-div-eq-div-mul, div-one, pow-suc}
use Rattle.std.proofs.Math.Seq.{drop-append-add}
use Rattle.std.proofs.lemmas.List.{take_at, drop-drop, take-append-drop, drop_all}
use Rattle.std.proofs.lemmas.Slice.{take-put_mid}
use Rattle.std.specs.Int.{byte_at, bytes_low_first}
use borrow.Rule.Slice.PartMut.{put_mid}
use Rattle.tb_layout.specs.claim.Bytes.{little_endian, number_at}
use Rattle.tb_layout.specs.claim.BytesOfNumbers.{bytes_of, bytes_in_turn}

pub length-bytes_of : (size number : ℕ) → length (bytes_of size number) ≡ size
unfolding bytes_of
length-bytes_of zero number = refl
length-bytes_of (suc size) number = ap suc (length-bytes_of size (number / 256))

byte_at-pow : (place number : ℕ) → byte_at place number ≡ number / 256 ^ place % 256
byte_at-pow zero number = ap (λ (n : ℕ). n % 256) (sym (div-one number))
byte_at-pow (suc place) number = refl

-- the bytes that `byteorder` writes
bytes_low_first-bytes_of : (place size number : ℕ)
    → bytes_low_first place size number ≡ bytes_of size (number / 256 ^ place)
unfolding bytes_of
bytes_low_first-bytes_of place zero number = refl
bytes_low_first-bytes_of place (suc size) number =
    let next : number / 256 ^ suc place ≡ number / 256 ^ place / 256 =
    ap (λ (p : ℕ). number / p) (pow-suc 256 place) ∙ sym (div-div-eq-div-mul number (256 ^ place) 256) in
    rw (byte_at-pow place number, bytes_low_first-bytes_of (suc place) size number, next) refl

-- a write at an offset, seen from the front
pub written : (offset size number : ℕ) (buffer part : List ℕ) → offset + size ≤ length buffer
    → part ≡ bytes_low_first 0 size number ++ drop size (take (offset + size - offset) (drop offset buffer))
    → take (offset + size) (put_mid offset (offset + size - offset) buffer part) ≡ take offset buffer ++ bytes_of size number
written offset size number buffer part within is =
    let count = offset + size - offset in
    let replaced = take count (drop offset buffer) in
    let low : bytes_low_first 0 size number ≡ bytes_of size number = bytes_low_first-bytes_of 0 size number
    ∙ ap (bytes_of size) (div-one number) in
    let none : drop size replaced ≡ [] =
    drop_all size replaced (omega (arith, length-take-le count (drop offset buffer) (omega (arith, length-drop offset buffer)))) in
    let exact : part ≡ bytes_of size number =
    is ∙ ap (λ bytes. bytes_low_first 0 size number ++ bytes) none ∙ append-nil (bytes_low_first 0 size number) ∙ low in
    take-put_mid offset count buffer part (offset + size)
    (sym (ap (λ bytes. offset + length bytes) exact ∙ ap (λ n. offset + n) (length-bytes_of size number)))
    (omega arith) ∙ ap (λ bytes. take offset buffer ++ bytes) exact

-- a number in two parts, the lower of them first
pub bytes_of-append : (size more low high : ℕ) → low < 256 ^ size
    → bytes_of size low ++ bytes_of more high ≡ bytes_of (size + more) (low + 256 ^ size * high)
unfolding bytes_of
bytes_of-append zero more low high low_fits =
    let count : 0 + more ≡ more = omega arith in
    let number : low + 256 ^ 0 * high ≡ high = omega arith in
    rw (count, number) refl
bytes_of-append (suc size) more low high low_fits =
    let power = pow-suc 256 size in
    let product : 256 ^ suc size * high ≡ 256 * (256 ^ size * high) = ap (λ (p : ℕ). p * high) power ∙ omega arith in
    let whole = low + 256 ^ suc size * high in
    let count : suc size + more ≡ suc (size + more) = omega arith in
    let first : whole % 256 ≡ low % 256 = omega arith in
    let others : whole / 256 ≡ low / 256 + 256 ^ size * high = omega arith in
    let fits : low / 256 < 256 ^ size = omega arith in
    rw (count, first, others) (ap (λ bytes. low % 256 ∷ bytes) (bytes_of-append size more (low / 256) high fits))

-- a number of 16 bytes, written in two halves
pub halves : (offset number : ℕ) (old between new : List ℕ)
    → take (offset + 8) between ≡ take offset old ++ bytes_of 8 (number % 18446744073709551616) →
    take (offset + 8 + 8) new ≡ take (offset + 8) between ++ bytes_of 8 (number / 18446744073709551616)
    → take (offset + 16) new ≡ take offset old ++ bytes_of 16 number
halves offset number old between new low high =
    let small : number % 18446744073709551616 < 256 ^ 8 = omega arith in
    let whole : number % 18446744073709551616 + 256 ^ 8 * (number / 18446744073709551616) ≡ number = omega arith in
    let end : offset + 16 ≡ offset + 8 + 8 = omega arith in
    let parts = bytes_of-append 8 8 (number % 18446744073709551616) (number / 18446744073709551616) small
    ∙ ap (bytes_of 16) whole in
    ap (λ n. take n new) end ∙ high ∙ ap (λ bytes. bytes ++ bytes_of 8 (number / 18446744073709551616)) low
    ∙ append_assoc (take offset old) _ _ ∙ ap (λ bytes. take offset old ++ bytes) parts

pub little_endian-bytes_of : (size number : ℕ) → number < 256 ^ size → little_endian (bytes_of size number) ≡ number
unfolding bytes_of
little_endian-bytes_of zero number h = omega arith
little_endian-bytes_of (suc size) number h =
    let p = pow-suc 256 size in
    let rest = little_endian-bytes_of size (number / 256) (omega arith) in
    omega arith

bytes_of-little_endian : (bytes : List ℕ) → All (λ byte. byte < 256) bytes
    → bytes_of (length bytes) (little_endian bytes) ≡ bytes
unfolding bytes_of
bytes_of-little_endian [] are_bytes = refl
bytes_of-little_endian (byte ∷ bytes) are_bytes =
    let small : byte < 256 = are_bytes 0 0 (omega arith) in
    let whole = byte + 256 * little_endian bytes in
    let first : whole % 256 ≡ byte = omega arith in
    let others : whole / 256 ≡ little_endian bytes = omega arith in
    rw (first, others) (ap (λ more. byte ∷ more) (bytes_of-little_endian bytes
    (λ place d within. are_bytes (suc place) d (omega arith))))

-- ---- numbers that lie one after the other

-- how many bytes they have
abbrev pub size_of : List (ℕ × ℕ) → ℕ
size_of [] = 0
size_of ((size, number) ∷ fields) = size + size_of fields

drop-laid : (front back : List (ℕ × ℕ)) → drop (size_of front) (bytes_in_turn (front ++ back)) ≡ bytes_in_turn back
drop-laid [] back = refl
drop-laid ((size, number) ∷ front) back =
    ap (λ n. drop (n + size_of front) (bytes_of size number ++ bytes_in_turn (front ++ back)))
    (sym (length-bytes_of size number))
    ∙ drop-append-add (bytes_of size number) (bytes_in_turn (front ++ back)) (size_of front) ∙ drop-laid front back

-- a number is found where it was written
pub number_at-laid : (front : List (ℕ × ℕ)) (size number : ℕ) (back : List (ℕ × ℕ)) → number < 256 ^ size →
    number_at (bytes_in_turn (front ++ (size, number) ∷ back)) (size_of front) size ≡ number
number_at-laid front size number back h =
    let count : size_of front + size - size_of front ≡ size = omega arith in
    ap (λ n. little_endian (take n (drop (size_of front) (bytes_in_turn (front ++ (size, number) ∷ back))))) count
    ∙ ap (λ bytes. little_endian (take size bytes)) (drop-laid front ((size, number) ∷ back))
    ∙ ap little_endian (take_at (bytes_of size number) (bytes_in_turn back) size (length-bytes_of size number))
    ∙ little_endian-bytes_of size number h

-- the numbers of these sizes, from an offset on
abbrev pub fields_from : List ℕ → ℕ → List ℕ → List (ℕ × ℕ)
fields_from [] offset bytes = []
fields_from (size ∷ sizes) offset bytes = (size, number_at bytes offset size) ∷ fields_from sizes (offset + size) bytes

abbrev pub end_of : List ℕ → ℕ → ℕ
end_of [] offset = offset
end_of (size ∷ sizes) offset = end_of sizes (offset + size)

end_of-le : (sizes : List ℕ) (offset : ℕ) → offset ≤ end_of sizes offset
end_of-le [] offset = omega arith
end_of-le (size ∷ sizes) offset = omega (arith, end_of-le sizes (offset + size))

-- laid again, they are the bytes
pub laid-fields_from : (sizes : List ℕ) (offset : ℕ) (bytes : List ℕ) → end_of sizes offset ≡ length bytes
    → All (λ byte. byte < 256) bytes →
    bytes_in_turn (fields_from sizes offset bytes) ≡ drop offset bytes
laid-fields_from [] offset bytes ends small = sym (drop_all offset bytes (omega arith))
laid-fields_from (size ∷ sizes) offset bytes ends small =
    let within = end_of-le sizes (offset + size) in
    let count : offset + size - offset ≡ size = omega arith in
    let part = take size (drop offset bytes) in
    let long : length part ≡ size = length-take-le size (drop offset bytes) (omega (arith, length-drop offset bytes)) in
    let first : bytes_of size (number_at bytes offset size) ≡ part =
    ap (λ n. bytes_of size (little_endian (take n (drop offset bytes)))) count
    ∙ ap (λ n. bytes_of n (little_endian part)) (sym long)
    ∙ bytes_of-little_endian part (All-take (λ byte. byte < 256) size (drop offset bytes)
    (All-drop (λ byte. byte < 256) offset bytes small)) in
    ap (λ front. front ++ bytes_in_turn (fields_from sizes (offset + size) bytes)) first
    ∙ ap (λ back. part ++ back) (laid-fields_from sizes (offset + size) bytes ends small
    ∙ sym (drop-drop size offset bytes))
    ∙ take-append-drop size (drop offset bytes)
