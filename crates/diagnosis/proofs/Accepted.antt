-- Which bytes are accepted as a diagnosis: exactly those that are one in plain arithmetic.
use Rattle.std.specs.Prelude.{◌≡◌, refl, true, List, [], ◌∷◌, ◌↔◌, ℕ, Ok, Err}
use Rattle.std.proofs.Common.{ap, subst, arith, zero-add, eq-eqb}
use Rattle.octets.proofs.Choice.{never}
use Rattle.diagnosis.specs.Block.{extent, good_code, sized_of, channel_of, found_by, found_at}
use Rattle.diagnosis.specs.Reading.{good_status1, good_status2, good_master, blocks_in, ext_diag_agrees, judge, header_of, read_of, Reading}
use Rattle.diagnosis.specs.Contents.{accepted, Walks}
use Rattle.diagnosis.specs.Bytes.{DiagnosisBytes, IsDiagnosis, BlockBytes}
use Rattle.diagnosis.proofs.Lemmas.Bytes.{header_bytes_lem, status1_good, status2_good, master_good, ext_diag, agrees_good, walk_blocks, blocks_walk}
use Rattle.diagnosis.proofs.Laws.{Tiled, tiled_is_read, read_is_tiled}
use Rattle.diagnosis.specs.declared.block.Kind.TheVariants.{Device, Module, Channel}

module _ (s : List ℕ) where
  tiled_bytes : (n : ℕ) → Tiled s n → DiagnosisBytes s n
  tiled_bytes n t =
      let r = walk_blocks t.walk in
      let e : r.left ≡ n = omega (arith, r.sum) in
      record {
        long = t.long;
        short = t.short;
        header = header_bytes_lem s t.status1 t.status2 t.status3 t.master;
        blocks = subst (BlockBytes s 6) e r.blocks;
        agrees = ext_diag _ _ t.agrees;
      }

  bytes_tiled : (n : ℕ) → DiagnosisBytes s n → Tiled s n
  bytes_tiled n d =
      record {
        long = d.long;
        short = d.short;
        status1 = status1_good s d.header;
        status2 = status2_good s d.header;
        status3 = eq-eqb _ _ d.header.status3;
        master = master_good d.header.master;
        walk = subst (λ (i : ℕ). Walks s 6 0 (Ok i)) (zero-add n) (blocks_walk d.blocks 0 (omega arith));
        agrees = agrees_good d.agrees;
      }

  -- Read as a diagnosis of n blocks exactly when the header's bits and bytes are in range, n blocks tile the rest, and Ext_Diag agrees.
  pub diagnosis_read : (n : ℕ) → read_of s ≡ Ok (record { header = header_of s; blocks = n }) ↔ DiagnosisBytes s n
  diagnosis_read n = (λ e. tiled_bytes n (read_is_tiled s e), λ d. tiled_is_read s n (bytes_tiled n d))

  by_reading : (r : Reading) → read_of s ≡ r → accepted r ≡ true → IsDiagnosis s
  by_reading (Ok found) e a = record { count = found.blocks; bytes = tiled_bytes found.blocks (read_is_tiled s e) }
  by_reading (Err r) e a = absurd (never a)

  -- Accepted exactly when it is one with whatever blocks.
  pub diagnosis_accepted : accepted (read_of s) ≡ true ↔ IsDiagnosis s
  diagnosis_accepted = (by_reading (read_of s) refl, λ d. ap accepted (tiled_is_read s d.count (bytes_tiled d.count d.bytes)))

-- A device, a module and a channel block are found as what they are.
pub kinds_computed :
    (found_at (2 ∷ 9 ∷ []) 0 ≡ Ok (extent Device 2))
    × (found_at (66 ∷ 9 ∷ []) 0 ≡ Ok (extent Module 2))
    × (found_at (130 ∷ 67 ∷ 38 ∷ []) 0 ≡ Ok (extent Channel 3))
unfolding found_by sized_of channel_of good_code
kinds_computed = (refl, refl, refl)

-- Document 01's worked diagnosis, and one with no block.
pub diagnoses_computed :
    (accepted (read_of (8 ∷ 12 ∷ 0 ∷ 2 ∷ 18 ∷ 52 ∷ 130 ∷ 67 ∷ 38 ∷ [])) ≡ true)
    × (accepted (read_of (0 ∷ 4 ∷ 128 ∷ 255 ∷ 0 ∷ 0 ∷ [])) ≡ true)
unfolding read_of judge good_status1 good_status2 good_master ext_diag_agrees blocks_in found_by channel_of good_code
diagnoses_computed = (refl, refl)
