use Rattle.vx_functions.proofs.patterns.put_part.Goals as goal

pub returns-in-Any : goal.returns-in-Any
returns-in-Any c = λ f is. rw c.in-Any.is (c.put_anywhere.ensures f c.args.text.now is)

pub returns-in-One : goal.returns-in-One
returns-in-One c = λ f is. rw c.in-One.is (rw c.in-One.is at c.put_behind.ensures f is)

pub returns-in-Itself : goal.returns-in-Itself
returns-in-Itself c = λ f is. rw c.in-Itself.is (rw c.in-Itself.is at c.put_behind-in-Itself.ensures f is)
