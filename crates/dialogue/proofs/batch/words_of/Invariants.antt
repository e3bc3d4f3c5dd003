use Rattle.std.proofs.Common.{◌≡◌, take}
use Rattle.std.specs.String.{string_bytes}
use Rattle.dialogue.specs.Talk.{reply_lines}
use Rattle.dialogue.proofs.batch.words_of.Given as goal

abbrev pub invariant-loop-reply : goal.invariant-loop-reply
invariant-loop-reply g l = string_bytes l.text ≡ reply_lines (take l.reply-index l.replies)
