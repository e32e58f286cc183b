-- An id is what its own bytes hold.
use Rattle.std.proofs.Common.{◌≡◌, ℕ, zero, suc, ◌/◌, ◌%◌, ◌^◌, ◌<◌, [], ◌∷◌, refl, sym, ap, ◌∙◌, arith}
use Rattle.std.proofs.Math.Nat.{div-div-eq-div-mul, div-one, pow-suc}
use Rattle.std.specs.Hash.{le_bytes}
use Rattle.std.specs.Int.{byte_at, bytes_low_first}
use Rattle.tb_tables.proofs.Words.{little_endian}
use Rattle.tb_layout.specs.claim.Events.{ids_of}

byte_at-pow : (index number : ℕ) → byte_at index number ≡ number / 256 ^ index % 256
byte_at-pow zero number = ap (λ (n : ℕ). n % 256) (sym (div-one number))
byte_at-pow (suc index) number = refl

little_endian-low_first : (index size number : ℕ) → number / 256 ^ index < 256 ^ size
    → little_endian (bytes_low_first index size number) ≡ number / 256 ^ index
little_endian-low_first index zero number h = omega arith
little_endian-low_first index (suc size) number h =
    let next : number / 256 ^ suc index ≡ number / 256 ^ index / 256 =
    ap (λ (p : ℕ). number / p) (pow-suc 256 index) ∙ sym (div-div-eq-div-mul number (256 ^ index) 256) in
    let p = pow-suc 256 size in
    let first = byte_at-pow index number in
    let others = little_endian-low_first (suc index) size number (omega arith) in
    omega arith

pub ids_of-id : (id : ℕ) → id < 2 ^ 128 → ids_of (le_bytes 16 id) ≡ id ∷ []
unfolding le_bytes
ids_of-id id h =
    let none = div-one id in
    ap (λ (n : ℕ). n ∷ []) (little_endian-low_first 0 16 id (omega arith) ∙ none)
