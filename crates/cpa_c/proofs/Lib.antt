mod GiveLaws
