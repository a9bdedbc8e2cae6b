-- The digest of a text, of its blocks of four words, the bytes after the last block, and its length.
use Rattle.std.specs.Prelude.{ℕ, ◌+◌, ◌-◌, ◌*◌, ◌/◌, ◌%◌, ◌^◌, List, ◌∷◌, ◌++◌, length, map, drop, fold, bit_and, bit_xor}
use Rattle.std.specs.Int.{from_le_bytes, w64}
use Rattle.std.specs.Simd.{first_chunks}
use Rattle.std.specs.Hash as fed
use Rattle.std.specs.Hash.DefaultHasher as sip
use Rattle.text_hash.specs.declared.digest.Pair.{Pair}
use Rattle.text_hash.specs.declared.digest.State.{State}

-- the state before the first word: the first digits of pi after the point, which std's hasher uses too
unfoldable pub first_state : State
first_state = record {
  first = record { left = 0x243f_6a88_85a3_08d3; right = 0x1319_8a2e_0370_7344 };
  second = record { left = 0xa409_3822_299f_31d0; right = 0x082e_fa98_ec4e_6c89 };
  third = record { left = 0x4528_21e6_38d0_1377; right = 0xbe54_66cf_34e9_0c6c };
  fourth = record { left = 0xc0ac_29b7_c97c_50dd; right = 0x3f84_d5b5_b547_0917 };
}

-- the difference of two words, modulo 2 ^ 64
abbrev pub wrapping_difference : ℕ → ℕ → ℕ
wrapping_difference a b = (a + (2 ^ 64 - b)) % 2 ^ 64

-- the state after one more word: seven bits of each of its bytes change both halves of the first pair, which moves to the end, and the
-- product of these halves changes the pair that moved there last
unfoldable pub absorb_word : State → ℕ → State
absorb_word s word =
    let seven = bit_and word 0x7f7f_7f7f_7f7f_7f7f in
    let left = bit_xor s.first.left seven in
    let right = wrapping_difference s.first.right seven in
    let product = left * right in
    record {
      first = s.second;
      second = s.third;
      third = record { left = wrapping_difference s.fourth.left (bit_and product (2 ^ 64 - 1)); right = wrapping_difference s.fourth.right (product / 2 ^ 64) };
      fourth = record { left = left; right = right };
    }

-- the state after a block of four words of eight bytes each, the lowest byte first
unfoldable pub absorb_block : State → List ℕ → State
absorb_block s block = fold absorb_word s (map (from_le_bytes w64) (first_chunks 8 4 block))

-- the whole blocks of 32 bytes of the text
abbrev pub blocks : List ℕ → List (List ℕ)
blocks text = first_chunks 32 (length text / 32) text

-- the bytes after the last whole block
abbrev pub remainder : List ℕ → List ℕ
remainder text = drop (length text / 32 * 32) text

-- the bytes of a pair that the hasher receives
abbrev pub pair_input : Pair → List (List ℕ)
pair_input p = fed.u64 p.left ++ fed.u64 p.right

-- the bytes of a state that the hasher receives
abbrev pub state_input : State → List (List ℕ)
state_input s = pair_input s.first ++ pair_input s.second ++ pair_input s.third ++ pair_input s.fourth

-- the digest of a text: the SipHash-1-3 of its length, of the bytes after the last block, and of the state after the blocks
unfoldable pub digest : List ℕ → ℕ
digest text =
    let state = fold absorb_block first_state (blocks text) in
    sip.finish (fold sip.write sip.initial (fed.usize (length text) ++ remainder text ∷ state_input state))
