-- Bytes that are written one record after the other.
use Rattle.std.proofs.Common.{◌≡◌, sym, subst, ap, ◌∙◌, arith, ℕ, suc, ◌+◌, ◌<◌, List, [], ◌++◌, take, drop, length, get_or, append_assoc, length-append}
use Rattle.kip.proofs.Words.{flat_map}
use Rattle.std.proofs.Math.Seq.{take-append_seam, take-suc}
use Rattle.std.proofs.lemmas.List.{flat_map_more}
use Rattle.std.proofs.lemmas.Slice.{drop-append-drop}

-- a record written after those before it
pub write_next : (before bytes out : List ℕ) (offset size : ℕ) → length before ≡ offset →
    take offset (before ++ drop offset out) ++ (bytes ++ drop (offset + size) (before ++ drop offset out))
    ≡ (before ++ bytes) ++ drop (offset + size) out
write_next before bytes out offset size long =
    ap (λ front. front ++ (bytes ++ drop (offset + size) (before ++ drop offset out)))
    (subst (λ n. take n (before ++ drop offset out) ≡ before) long (take-append_seam before (drop offset out)))
    ∙ ap (λ back. before ++ (bytes ++ back)) (drop-append-drop offset out before (offset + size) (omega arith) long)
    ∙ sym (append_assoc before bytes (drop (offset + size) out))

-- one record more
module _ {X : Type 0} (write : X → List ℕ) (records : List X) (index : ℕ) (default : X) (within : index < length records) where
  pub one_more : flat_map write (take (index + 1) records) ≡ flat_map write (take index records) ++ write (get_or records index default)
  one_more =
      let e : suc index ≡ index + 1 = omega arith in
      subst (λ n. flat_map write (take n records) ≡ flat_map write (take index records) ++ write (get_or records index default)) e
      (ap (flat_map write) (take-suc records index default within)
      ∙ sym (flat_map_more write [] (take index records) (get_or records index default)))

  -- the buffer with it
  pub written_more : {offset size : ℕ} (out : List ℕ) {was now : List ℕ} → length (flat_map write (take index records)) ≡ offset
      → was ≡ flat_map write (take index records) ++ drop offset out
      → now ≡ take offset was ++ (write (get_or records index default) ++ drop (offset + size) was)
      → length (write (get_or records index default)) ≡ size →
      (length (flat_map write (take (index + 1) records)) ≡ offset + size)
      × (now ≡ flat_map write (take (index + 1) records) ++ drop (offset + size) out)
  written_more {offset} {size} out long was_is now_is wide =
      let before = flat_map write (take index records) in
      let bytes = write (get_or records index default) in (
        omega (arith, ap length one_more, length-append before bytes, long, wide),
        now_is ∙ ap (λ was. take offset was ++ (bytes ++ drop (offset + size) was)) was_is
            ∙ write_next before bytes out offset size long ∙ ap (λ all. all ++ drop (offset + size) out) (sym one_more),
      )
