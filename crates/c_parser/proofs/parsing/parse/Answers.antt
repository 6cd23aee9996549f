use Rattle.std.proofs.Common.{rules, map, length, arith}
use Rattle.c_lexer.proofs.TextsOfTokens.{tokens_have_texts}
use Rattle.c_ast.specs.Lexemes.{lexemes_of}
use Rattle.c_ast.specs.Views.{item_of}
use Rattle.c_grammar.proofs.WholeTokens.{tokens_are_whole}
use Rattle.c_grammar.proofs.OneTree.{tree_read, no_tree}
use Rattle.c_parser.proofs.FileTrees.{of_tokens}
use Rattle.c_parser.proofs.parsing.parse.Goals as goal

pub returns-in-Ok : goal.returns-in-Ok
returns-in-Ok c =
    let list = c.args.tokens.now.list in
    let lexemes = lexemes_of c.args.tokens.now.bytes list in
    let whole = tokens_are_whole _ _ (tokens_have_texts _ _ c.requires.tokens) in (
      search rules,
      (
        list,
        c.requires.tokens,
        search rules,
        tree_read (length lexemes) lexemes (map item_of c.in-Ok.items) whole
            (search (rules, c.in-Ok.ensures)),
      ),
    )

pub returns-in-Err-NoParse : goal.returns-in-Err-NoParse
returns-in-Err-NoParse c =
    let list = c.args.tokens.now.list in
    let lexemes = lexemes_of c.args.tokens.now.bytes list in
    let none = no_tree (length lexemes) lexemes (omega arith) (search (rules, c.in-Err-NoParse.ensures)) in
    (search rules, search rules, λ items t. none items (of_tokens c.texts_have_one_reading.ensures.one_list _ list items c.requires.tokens t))
