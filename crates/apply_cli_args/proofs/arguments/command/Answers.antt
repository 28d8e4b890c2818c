use Rattle.apply_cli_args.proofs.arguments.command.Goals as goal

pub returns : goal.returns
returns c =
    let settings = c.settings_command-settings.ensures in
    let forms = c.form.ensures in
    let commands = c.command_option.ensures in
    let refreshes = c.refresh_option.ensures in
    let with_lanes = c.add-lanes.ensures _ _ settings.2 c.parallelism.ensures.0 c.parallelism.ensures.1 in
    let with_forms = c.add-forms.ensures _ _ with_lanes forms.2 forms.3 in
    let with_commands = c.add-commands.ensures _ _ with_forms commands.2 commands.3 in (
      record { kinds = settings.0; forms = forms.0; commands = commands.0; refreshes = refreshes.0 },
      record { kinds = settings.1; forms = forms.1; commands = commands.1; refreshes = refreshes.1 },
      c.add.ensures _ _ with_commands refreshes.2 refreshes.3,
    )
