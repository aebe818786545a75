use Rattle.order_words.proofs.FailingWordLemmas.{asks_at, asks_further}
use Rattle.order_words.proofs.failing_words.failings.Goals as goal

pub returns-in_default : goal.returns-in_default
returns-in_default c fails all =
    let one = asks_at c.args.words.now fails c.loop-word.word-index _ c.loop-word-test.true all in c.in_default.ensures.none one.0 one.1

pub loop-word-preserved : goal.loop-word-preserved
loop-word-preserved c =
    asks_further c.args.words.now c.loop-word.fails.items c.push.new.self.items c.loop-word.word-index _ c.in-Some.failing c.loop-word-test.true
    c.loop-word.invariant c.in-Some.ensures.some c.in_ok-push.ensures.items
