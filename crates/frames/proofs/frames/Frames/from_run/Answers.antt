use Rattle.std.proofs.Common.{ℕ, ◌-◌, ◌*◌, Ok, sym, ap, ◌∙◌, arith, rules}
use lib.Bits.{bit_xor}
use Rattle.std.proofs.lemmas.Bool.{cond-true}
use Rattle.sets.specs.Bytes.{mask}
use Rattle.sets.specs.Runs.{within}
use Rattle.sets.proofs.Answering.{told}
use Rattle.sets.proofs.Bits.{run_sound, run_bits}
use Rattle.sets.proofs.Scans.{within-le, is_run_when}
use Rattle.frames.proofs.Made.{made}
use Rattle.frames.specs.FrameFacts.{frame_sets}
use Rattle.frames.proofs.frames.Frames.from_run.Goals as goal

pub invariant_of-result : goal.invariant_of-result
invariant_of-result c =
    let from = c.args.from in
    let to = c.args.to in
    let each : ℕ → ℕ = λ i. bit_xor (mask (to - i * 8)) (mask (from - i * 8)) in
    let items = c.from_fn.ensures.items in
    record { sound = run_sound 32 from to _ (made _ _ each (λ i b f call. (search rules, search rules)) items) items.long }

pub returns : goal.returns
returns c =
    let from = c.args.from in
    let to = c.args.to in
    let each : ℕ → ℕ = λ i. bit_xor (mask (to - i * 8)) (mask (from - i * 8)) in
    let has = run_bits 32 from to _ (made _ _ each (λ i b f call. (search rules, search rules)) c.from_fn.ensures.items) (omega (arith, c.in_ok-from.ensures.contents.1)) in
    record {
      answer = ap Ok (told frame_sets _ (within from to) (within-le from to) has) ∙ sym (cond-true _ _ _ (is_run_when 256 from to c.in_ok-from.ensures.contents.1 c.in_ok-from.ensures.contents.2));
      contents = has;
    }
