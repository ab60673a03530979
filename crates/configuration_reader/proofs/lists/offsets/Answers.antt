-- `configuration_reader::lists::offsets` meets its contract. What reading accepts has as many offsets as modules, so that they fit.
use Rattle.std.proofs.Common.{◌≡◌, sym, ◌∙◌, ℕ, List, length, arith, le-ltb}
use Rattle.octets.proofs.Front.{stores}
use Rattle.configuration.specs.Walk.{walk_of}
use Rattle.configuration.specs.Reading.{input_of, output_of, total, input_offsets, output_offsets, read_of, offsets_by, with_room}
use Rattle.configuration.specs.declared.fields.Module.{Module}
use Rattle.configuration.proofs.Lemmas.Accepted.{accepted, counted}
use Rattle.configuration_reader.proofs.lists.offsets.Goals as goal

-- as many offsets as modules
as_many : (s : List ℕ) {n i o : ℕ} → read_of s ≡ total n i o → (side : Module → ℕ) → length (offsets_by side 0 (walk_of s 0)) ≡ n
as_many s e side = omega (arith, counted side 0 0 0 0 (walk_of s 0) (accepted s e).totals)

pub gather-requires : goal.gather-requires
gather-requires c = (accepted c.args.bytes.now (sym c.in_ok-reading.ensures)).most

pub returns : goal.returns
unfolding with_room
returns c =
    let g = c.in_ok-reading.reading in
    let s = c.args.bytes.now in
    let a = c.args.inputs.now in
    let b = c.args.outputs.now in
    let read_is : read_of s ≡ total g.modules g.inputs g.outputs = sym c.in_ok-reading.ensures in
    let room : with_room (length a) (length b) (read_of s) ≡ total g.modules g.inputs g.outputs =
    simp (read_is, le-ltb _ _ c.if-inputs-reading.false, le-ltb _ _ c.if-outputs-reading.false) in
    record {
      answer = c.gather.ensures.answer ∙ (accepted s read_is).totals ∙ sym room;
      inputs = rw room (c.gather.ensures.inputs ∙ (stores (input_offsets s) a (omega (arith, as_many s read_is input_of, c.if-inputs-reading.false))).bytes);
      outputs = rw room (c.gather.ensures.outputs ∙ (stores (output_offsets s) b (omega (arith, as_many s read_is output_of, c.if-outputs-reading.false))).bytes);
    }
