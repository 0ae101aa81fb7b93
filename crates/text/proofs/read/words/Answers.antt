use Rattle.std.proofs.Common.{rules}
use Rattle.text.proofs.Split.{words_of}
use Rattle.text.proofs.read.words.Goals as goal

pub returns : goal.returns
returns c = search (rules, words_of c.args.line.now c.split_whitespace.result c.collect.result c.split_whitespace.ensures.rest c.collect.ensures.ran)
