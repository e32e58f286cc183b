-- Events laid one after the other.
use Rattle.std.proofs.Common.{refl, sym, ap, ◌∙◌, arith, ◌≡◌, ◌≤◌, ℕ, zero, suc, ◌+◌, ◌*◌, ◌/◌, List, [], ◌∷◌, ◌++◌, map, take, drop, length, length-append, append-nil}
use Rattle.tb_work.proofs.Words.{flat_map, map-append, take-append-le, drop-append-le, length-drop, take_all, chunks}
use Rattle.std.specs.Simd.{first_chunks}
use Rattle.std.proofs.lemmas.Grind.{flat_map-append}

-- chunks of a size, as large as a whole number of them
module _ (size : ℕ) (counts : (k : ℕ) → (k * size) / size ≡ k) (grows : (k : ℕ) → suc k * size ≡ size + k * size) where
  -- one chunk more
  chunks-more : (k : ℕ) (bytes chunk : List ℕ) → length bytes ≡ k * size → length chunk ≡ size
      → first_chunks size (suc k) (bytes ++ chunk) ≡ first_chunks size k bytes ++ chunk ∷ []
  chunks-more zero [] chunk is one = ap (λ first. first ∷ []) (take_all size chunk (omega (arith, one)))
  chunks-more zero (byte ∷ bytes) chunk is one = absurd (omega (arith, is))
  chunks-more (suc k) bytes chunk is one =
      let long : length bytes ≡ size + k * size = is ∙ grows k in
      let fits : size ≤ length bytes = omega (arith, long) in
      let rest : length (drop size bytes) ≡ k * size = omega (arith, length-drop size bytes, long) in
      rw (
        take-append-le size bytes chunk fits,
        drop-append-le size bytes chunk fits,
        chunks-more k
            (drop size bytes) chunk rest one,
      ) refl

  -- and one event more
  events-more : {Event : Type 0} (f : List ℕ → Event) (k : ℕ) (bytes chunk : List ℕ) → length bytes ≡ k * size
      → length chunk ≡ size → map f (chunks size (bytes ++ chunk)) ≡ map f (chunks size bytes) ++ f chunk ∷ []
  events-more f k bytes chunk is one =
      let long : length (bytes ++ chunk) ≡ suc k * size = omega (arith, is, one, grows k, length-append bytes chunk) in
      let all : length (bytes ++ chunk) / size ≡ suc k = ap (λ n. n / size) long ∙ counts (suc k) in
      let before : length bytes / size ≡ k = ap (λ n. n / size) is ∙ counts k in
      ap (λ n. map f (first_chunks size n (bytes ++ chunk))) all ∙ ap (map f) (chunks-more k bytes chunk is one)
      ∙ map-append f (first_chunks size k bytes) (chunk ∷ [])
      ∙ ap (λ n. map f (first_chunks size n bytes) ++ f chunk ∷ []) (sym before)

-- events that are laid so that they are read back, once one more is laid
module _ {Event : Type 0} (write : Event → List ℕ) (read : List ℕ → Event) (events : List Event) (k : ℕ)
    (event : Event) (next : take (k + 1) events ≡ take k events ++ event ∷ []) (bytes after : List ℕ)
    (grown : after ≡ bytes ++ write event) where
  pub laid-bytes : bytes ≡ flat_map write (take k events) → after ≡ flat_map write (take (k + 1) events)
  laid-bytes is =
      grown ∙ ap (λ front. front ++ write event) is
      ∙ sym (ap (flat_map write) next ∙ flat_map-append write (take k events) (event ∷ [])
      ∙ ap (λ last. flat_map write (take k events) ++ last) (append-nil (write event)))

  pub laid-length : (size : ℕ) → ((k : ℕ) → (k + 1) * size ≡ size + k * size) → length bytes ≡ k * size
      → length (write event) ≡ size → length after ≡ (k + 1) * size
  laid-length size grows is one = ap length grown ∙ omega (arith, is, one, grows k, length-append bytes (write event))

  pub laid-events : (size : ℕ) → ((k : ℕ) → (k * size) / size ≡ k) → ((k : ℕ) → suc k * size ≡ size + k * size)
      → length bytes ≡ k * size → length (write event) ≡ size → read (write event) ≡ event
      → map read (chunks size bytes) ≡ take k events → map read (chunks size after) ≡ take (k + 1) events
  laid-events size counts grows is one back same =
      ap (λ all. map read (chunks size all)) grown
      ∙ events-more size counts grows read k bytes (write event) is one
      ∙ ap (λ front. front ++ read (write event) ∷ []) same ∙ ap (λ last. take k events ++ last ∷ []) back ∙ sym next
