use Rattle.std.proofs.Common.{rules}
use Rattle.text.proofs.Hex.{hex_text}
use Rattle.text.proofs.write.hexadecimal.Goals as goal

pub returns : goal.returns
returns c = search (rules, hex_text c.args.bytes.now (λ i. search rules) (search rules), c.encode.ensures)
