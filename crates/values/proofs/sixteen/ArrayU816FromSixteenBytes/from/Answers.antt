use Rattle.std.proofs.Common.{◌≡◌, sym, ◌∙◌}
use Rattle.values.specs.Bytes.{bytes_of}
use Rattle.values.specs.Kept.{text_of}
use Rattle.values.proofs.Numbers.{eight_bytes}
use Rattle.values.proofs.sixteen.ArrayU816FromSixteenBytes.from.Goals as goal

pub returns : goal.returns
unfolding text_of
returns c =
    let s = c.args.held in
    let high : c.copy_from_slice.new.self ≡ bytes_of 8 s.high = c.copy_from_slice.ensures.after ∙ (c.to_be_bytes.ensures ∙ sym (eight_bytes s.high)) in
    let low : c.copy_from_slice-2.new.self ≡ bytes_of 8 s.low = c.copy_from_slice-2.ensures.after ∙ (c.to_be_bytes-2.ensures ∙ sym (eight_bytes s.low)) in
    rw (high, low)
