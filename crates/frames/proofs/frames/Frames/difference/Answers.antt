use Rattle.std.proofs.Common.{ℕ, get_or, rules}
use lib.Bits.{bit_xor}
use Rattle.sets.proofs.Answering.{joins, leaves}
use Rattle.sets.proofs.Bits.{mixed_bits, mixed_sound}
use Rattle.frames.proofs.Made.{made}
use Rattle.frames.specs.FrameFacts.{frame_sets}
use Rattle.frames.proofs.frames.Frames.difference.Goals as goal

pub invariant_of-result : goal.invariant_of-result
invariant_of-result c =
    let x = c.args.self.now in
    let y = c.args.other.now in
    let each : ℕ → ℕ = λ i. bit_xor (get_or x.bytes i 0) (get_or y.bytes i 0) in
    let items = c.from_fn.ensures.items in
    record { sound = mixed_sound 32 x.bytes y.bytes _ x.sound y.sound items.long (made _ _ each (λ i b f call. (search rules, search rules)) items) }

pub returns : goal.returns
returns c =
    let x = c.args.self.now in
    let y = c.args.other.now in
    let each : ℕ → ℕ = λ i. bit_xor (get_or x.bytes i 0) (get_or y.bytes i 0) in
    let one = mixed_bits 32 x.bytes y.bytes _ (made _ _ each (λ i b f call. (search rules, search rules)) c.from_fn.ensures.items) in
    record { members = one; joined = λ e. joins frame_sets x y _ e one; left = λ e. leaves frame_sets x y _ e one }
